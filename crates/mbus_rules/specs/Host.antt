-- 01, "The bench host": line checking on bytes, two per character, low byte first.
use Rattle.std.specs.Prelude.{ℕ, ◌+◌, ◌%◌, cond, List, eqb, length}
use Rattle.mbus_rules.specs.declared.Kind.{Kind}
use Rattle.mbus_rules.specs.declared.Kind.TheVariants.{Ack, Read, Enter, Leave, Data}
use Rattle.mbus_rules.specs.declared.Telegram.{Telegram}
use Rattle.base_rules.specs.Answers.{Answer, reads, refusal}
use Rattle.mbus_rules.specs.Lines.{read_line}
use Rattle.base_characters.specs.Characters.{chars}

-- The answer is 1 ack, 2 read, 3 enter, 4 leave, 5 data,
abbrev pub kind_number : Kind → ℕ
kind_number Ack = 1
kind_number Read = 2
kind_number Enter = 3
kind_number Leave = 4
kind_number Data = 5

-- or 256 plus the refusal number.
abbrev pub line_number : Answer Telegram → ℕ
line_number (refusal n) = 256 + n
line_number (reads t) = kind_number t.kind

-- 17 in the host form only, before 1: odd number of bytes.
abbrev pub host_number : List ℕ → ℕ
host_number b = cond (eqb (length b % 2) 1) (256 + 17) (line_number (read_line (chars b)))
