-- 02, 2026-08, for C: line checking on bytes, two per character, low byte first.
use Rattle.std.specs.Prelude.{ℕ, ◌+◌, ◌%◌, cond, List, eqb, length}
use Rattle.base_rules.specs.Answers.{Answer, reads, refusal}
use Rattle.base_characters.specs.Characters.{chars}
use Rattle.cjt_rules.specs.declared.CjtTelegram.{CjtTelegram}
use Rattle.cjt_rules.specs.declared.CjtTelegram.TheVariants as telegrams
use Rattle.cjt_rules.specs.CjtLines.{read_cjt_line}

-- The answer is 1 request, 2 answer,
abbrev pub cjt_kind_number : CjtTelegram → ℕ
cjt_kind_number (telegrams.Request q) = 1
cjt_kind_number (telegrams.Answer a) = 2

-- or 256 plus the refusal number.
abbrev pub cjt_line_number : Answer CjtTelegram → ℕ
cjt_line_number (refusal n) = 256 + n
cjt_line_number (reads t) = cjt_kind_number t

-- 17 in the host form only, before 1: odd number of bytes.
abbrev pub cjt_host_number : List ℕ → ℕ
cjt_host_number b = cond (eqb (length b % 2) 1) (256 + 17) (cjt_line_number (read_cjt_line (chars b)))
