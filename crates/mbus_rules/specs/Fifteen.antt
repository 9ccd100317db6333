-- 01's chain with refusal 15, word for word as it stood before 02, 2026-05 took 15 out: `Laws/Fifteen` shows that it answers as the rules do.
use Rattle.std.specs.Prelude.{ℕ, zero, suc, cond, not, List, [], ◌∷◌, ◌++◌, eqb, length, drop}
use Rattle.mbus_rules.specs.declared.Entry.{Entry}
use Rattle.mbus_rules.specs.declared.Telegram.{Telegram}
use Rattle.base_rules.specs.Lists.{at}
use Rattle.base_rules.specs.Answers.{Answer, reads, refusal, refuse, within}
use Rattle.mbus_rules.specs.Headers.{header_of, wrong_header}
use Rattle.mbus_rules.specs.Quantities.{quantity_of}
use Rattle.mbus_rules.specs.Entries.{entry_of, entry_width, unfit, wrong_digit, wrong_time, seen, missing}
use Rattle.mbus_rules.specs.Telegrams.{ack, data_of}
use Rattle.mbus_rules.specs.Lines.{is_ack, is_short, field, is_command, is_data, command_of, read_short, read_with}

-- 11 to 15 are tried entry by entry from the left, 16 at the end. `left` entries may still come, of which the last is the eighth.
unfoldable pub entries_with15 : (left : ℕ) → List ℕ → (done : List Entry) → Answer (List Entry)
entries_with15 zero s done = refusal 15
entries_with15 (suc left) [] done = refuse 16 (missing done) (reads done)
entries_with15 (suc left) (b ∷ s) done =
    refuse 11 (unfit (b ∷ s))
    (refuse 12 (wrong_digit (b ∷ s))
    (refuse 13 (wrong_time (b ∷ s))
    (refuse 14 (seen (quantity_of (at (b ∷ s) 1)) done)
    (refuse 15 (eqb (length done) 7)
    (entries_with15 left (drop (entry_width (b ∷ s)) (b ∷ s)) (done ++ (entry_of (b ∷ s) ∷ [])))))))

-- the header, then the entries; at most seven are accepted, and an eighth has its number
abbrev pub data_with15 : ℕ → List ℕ → Answer Telegram
data_with15 a d = refuse 10 (wrong_header d) (within (data_of a (header_of d)) (entries_with15 8 (drop 12 d) []))

abbrev pub long_with15 : List ℕ → Answer Telegram
long_with15 f = cond (is_command f) (reads (command_of f)) (refuse 9 (not (is_data f)) (data_with15 (at f 1) (drop 3 f)))

abbrev pub body_with15 : List ℕ → Answer Telegram
body_with15 b = cond (is_ack b) (reads ack) (cond (is_short b) (read_short (field b)) (long_with15 (field b)))

abbrev pub line_with15 : List ℕ → Answer Telegram
line_with15 s = read_with body_with15 s
