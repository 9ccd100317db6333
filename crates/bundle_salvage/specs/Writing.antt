-- What the steps of salvaging leave in the second buffer.
use Rattle.std.specs.Prelude.{ℕ, ◌+◌, ◌*◌, ◌-◌, ◌≤◌, false, List, map, ◌≡◌, length, drop}
use Rattle.bundle_rows.specs.Rows.{most_rows, rows_of, first_offset}
use Rattle.bundle_rows.specs.declared.Row.{Row}
use Rattle.bundle_check.specs.Bundles.{most_bytes}
use Rattle.bundle_check.specs.Records.{moved_to}
use Rattle.bundle_check.specs.RowRules.{wrong_places}

-- the rows with their bodies as many places lower as the dropped rows had
abbrev pub lowered : ℕ → Row → Row
lowered dropped r = moved_to (r.offset - 12 * dropped) r

abbrev pub lowered_rows : ℕ → ℕ → List ℕ → List Row
lowered_rows kept dropped b = map (lowered dropped) (rows_of kept (drop 2 b))

-- contents that are whole
pub record ContentsWhole (b : List ℕ) (n : ℕ) : Type 0 where
  pub fits : length b ≤ most_bytes
  pub few : n ≤ most_rows
  pub there : first_offset n ≤ length b

-- the first of them stand at their places
pub record InPlace (b : List ℕ) (kept n : ℕ) : Type 0 where
  pub whole : ContentsWhole b n
  pub part : kept ≤ n
  pub places : wrong_places (length b) (first_offset n) (rows_of kept (drop 2 b)) ≡ false
