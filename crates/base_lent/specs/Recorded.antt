-- A record is the bytes that are written for a value, and is read as that value. Bytes that are written for no value are refused by
-- 101, a number outside 01's and 02's.
use Rattle.std.specs.Prelude.{ℕ, not, List}
use Rattle.base_rules.specs.Answers.{Answer, reads, refuse}
use Rattle.base_lent.specs.Same.{same}

-- the number for a record that no step or reader gives
abbrev pub no_record : ℕ
no_record = 101

-- `taken` takes a value from any bytes; they are its record if they are the bytes written for it.
abbrev pub recorded : {A : Type 0} → (A → List ℕ) → (List ℕ → A) → List ℕ → Answer A
recorded written taken b = refuse no_record (not (same b (written (taken b)))) (reads (taken b))
