-- Wake-up and error of indication for C: what they answer, and what they leave.
use Rattle.std.specs.Prelude.{ℕ, List, ℤ}
use Rattle.base_rules.specs.Answers.{Answer}
use Rattle.bench_indication.specs.Errors.{indication_of}
use Rattle.base_lent.specs.Lent.{needs}

-- The error of indication: 21, then 60 to 62.
abbrev pub error_for : ℕ → ℕ → ℕ → ℕ → List ℤ → Answer ℤ
error_for m1 m2 s1 s2 out = needs 1 out (indication_of m1 m2 s1 s2)
