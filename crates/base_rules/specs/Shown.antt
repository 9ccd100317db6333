-- 01, "The form to use in each place": for an answer of the program, 01's number and values for each of its cases.
use Rattle.std.specs.Prelude.{ℕ, Result, Ok, Err}
use Rattle.base_rules.specs.Answers.{Answer, reads, refusal}
use Rattle.base_rules.specs.declared.refusals.Refusal.{Refusal}

-- the refusal of a number
abbrev pub refused_by : ℕ → Refusal
refused_by n = record { 0 = n }

-- The program answers a value, or the number of a refusal.
abbrev pub shown : {A : Type 0} → Answer A → Result A Refusal
shown (reads a) = Ok a
shown (refusal n) = Err (refused_by n)
