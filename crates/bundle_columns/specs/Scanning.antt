-- A scan that has passed over places without the position.
use Rattle.std.specs.Prelude.{ℕ, ◌+◌, ◌≤◌, List, ◌≡◌, length, drop}
use Rattle.bundle_columns.specs.Lookups.{is_position, in_front}

-- the first place from r on is the first place from the given one on
pub record Passed (s : List ℕ) (position from r : ℕ) : Type 0 where
  pub inside : r ≤ length s
  pub onward : from ≤ r
  pub so : r + in_front (is_position position) (drop r s) ≡ from + in_front (is_position position) (drop from s)
