-- The lists as they are taken from the twelve bytes of each row.
use Rattle.std.specs.Prelude.{ℕ, zero, suc, ◌-◌, ◌^◌, ◌<◌, List, [], ◌∷◌, ◌++◌, ◌≡◌, take, drop, replicate}
use Rattle.base_rules.specs.Lists.{at}
use Rattle.base_numbers.specs.Numbers.{number}
use Rattle.bundle_rows.specs.Rows.{most_rows}

-- so many bytes at a place in each of n rows
unfoldable pub fields_of : ℕ → ℕ → ℕ → List ℕ → List ℕ
fields_of place width zero s = []
fields_of place width (suc n) s = number (take width (drop place s)) ∷ fields_of place width n (drop 12 s)

-- and 0 at the places past the last
unfoldable pub fields_in : ℕ → ℕ → ℕ → List ℕ → List ℕ
fields_in place width n b = fields_of place width n (drop 2 b) ++ replicate (most_rows - n) 0

-- What reading one of them answers.
pub record FieldThere (b : List ℕ) (n place width i r : ℕ) : Type 0 where
  pub so : i < most_rows → r ≡ at (fields_in place width n b) i
  pub fits : r < 256 ^ 8
