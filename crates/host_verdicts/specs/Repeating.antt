-- Rows that repeat a reading, for C: what is answered there, and what is left.
use Rattle.std.specs.Prelude.{ℕ, List, ◌≡◌, length}
use Rattle.base_rules.specs.Answers.{within}
use Rattle.base_lent.specs.Lent.{stored}
use Rattle.host_bundle.specs.Lent.{Gives}
use Rattle.run_repeats.specs.Repeats.{earlier_into}

-- How many rows there are, and the number for each in the first places and nothing beyond.
pub record RepeatsIn (b rows : List ℕ) (count r : ℕ) (rows' : List ℕ) (count' : ℕ) : Type 0 where
  pub gives : Gives (within length (earlier_into b rows)) count r count'
  pub holds : rows' ≡ stored (λ numbers. numbers) rows (earlier_into b rows)
