-- What is known where the rows of two bundles are written, and which comes next.
use Rattle.std.specs.Prelude.{ℕ, ◌+◌, ◌≤◌, Bool, ◌&&◌, ◌||◌, List, ◌≡◌, ltb, leb, length}
use Rattle.base_rules.specs.Answers.{reads}
use Rattle.bundle_rows.specs.Rows.{most_rows, unchecked_row}
use Rattle.bundle_check.specs.Bundles.{most_bytes, check_of}
use Rattle.bundle_joining.specs.Joining.{joined_bundle}

-- two accepted bundles whose rows fit into one, and that into the buffer
pub record BothFit (a : List ℕ) (m : ℕ) (b : List ℕ) (n : ℕ) (out : List ℕ) : Type 0 where
  pub first : check_of a ≡ reads m
  pub second : check_of b ≡ reads n
  pub few : m + n ≤ most_rows
  pub fits : length (joined_bundle a b) ≤ most_bytes
  pub room : length (joined_bundle a b) ≤ length out

-- the next row is that of b: a has none left, or b has one and it is earlier
abbrev pub from_b : List ℕ → ℕ → ℕ → List ℕ → ℕ → ℕ → Bool
from_b a m i b n j = leb m i || (ltb j n && ltb (unchecked_row b j).time (unchecked_row a i).time)
