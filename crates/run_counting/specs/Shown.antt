-- 01, "The form to use in each place": the number and values for each case of the answer.
use Rattle.std.specs.Prelude.{ℕ, ◌-◌, List, ◌++◌, ◌≡◌, length, replicate}
use Rattle.bundle_rows.specs.Rows.{most_rows}
use Rattle.bundle_check.specs.Records.{records_of}
use Rattle.run_counting.specs.declared.Counted.{Counted}
use Rattle.run_counting.specs.Counting.{numbers_of}

-- the numbers in the first places, and 0 behind them
abbrev pub padded : List ℕ → List ℕ
padded numbers = numbers ++ replicate (most_rows - length numbers) 0

-- the numbers of the rows in their places
abbrev pub numbered : List ℕ → Counted
numbered numbers = record { count = length numbers; rows = padded numbers }

-- What the walk along an accepted bundle leaves: how many numbers there are, and the numbers.
pub record Numbers (b : List ℕ) (position r : ℕ) (rows : List ℕ) : Type 0 where
  pub count : r ≡ length (numbers_of position (records_of b))
  pub holds : rows ≡ padded (numbers_of position (records_of b))
