-- What each call for C answers, and what it leaves in memory that was lent to it.
use Rattle.std.specs.Prelude.{ℕ, List, length}
use Rattle.mbus_rules.specs.declared.Telegram.{Telegram}
use Rattle.base_rules.specs.Answers.{Answer, follow}
use Rattle.mbus_rules.specs.Host.{kind_number}
use Rattle.mbus_rules.specs.Lines.{read_line}
use Rattle.mbus_rules.specs.Telegrams.{bare}
use Rattle.mbus_rules.specs.Writing.{write_line}
use Rattle.base_lent.specs.Lent.{placed}
use Rattle.mbus_telegrams.specs.Kinds.{kind_in}
use Rattle.mbus_records.specs.Telegrams.{telegram_size, telegram_from}

-- ---- what each call answers

-- Reading: 1 to 16, then 21; the answer is the host's number of the kind.
abbrev pub read_for : List ℕ → List ℕ → Answer Telegram
read_for line out = placed telegram_size out (read_line line)

abbrev pub kind_of : Telegram → ℕ
kind_of t = kind_number t.kind

-- Writing: 101 for the record, then 20 and 21; the answer is the number of characters.
abbrev pub write_for : List ℕ → List ℕ → Answer (List ℕ)
write_for b out = follow (telegram_from b) (λ t. write_line t (length out))

-- Writing a request, 2 read, 3 enter, 4 leave: 20 and 21.
abbrev pub request_for : ℕ → ℕ → ℕ → List ℕ → Answer (List ℕ)
request_for kind address method out = write_line (bare (kind_in kind) address method) (length out)
