-- What the steps of the sweep leave in the bundle.
use Rattle.std.specs.Prelude.{ℕ, ◌+◌, ◌*◌, ◌≤◌, Bool, List, [], ◌∷◌, ◌≡◌, length, drop}
use Rattle.base_lent.specs.Copying.{laid}
use Rattle.base_lent.specs.Pieces.{pieces}
use Rattle.bundle_rows.specs.Rows.{most_rows, rows_of, first_offset, bytes_of_rows, body_in}
use Rattle.bundle_rows.specs.declared.Row.{Row}
use Rattle.bundle_check.specs.Bundles.{most_bytes, contents_of}
use Rattle.bundle_check.specs.Records.{placed_from}
use Rattle.bundle_check.specs.RowRules.{next_offset}
use Rattle.bundle_sweep.specs.Sweeping.{goes, without}

-- a row goes, its body lying in the bundle
abbrev pub row_goes : ℕ → List ℕ → Row → Bool
row_goes position b r = goes position r.position (body_in b r)

-- the rows that are left, still with the offsets that they had
abbrev pub rows_left : ℕ → List ℕ → List Row
rows_left position b = without (row_goes position b) (contents_of b)

-- The rows that are left stand first in the contents, so many of them, and nothing behind them has changed.
pub record Drawn (position : ℕ) (b : List ℕ) (kept : ℕ) (after : List ℕ) : Type 0 where
  pub bytes : List ℕ
  pub size : length bytes ≡ 12 * kept
  pub rows : rows_of kept bytes ≡ rows_left position b
  pub holds : after ≡ laid b 2 bytes

-- bodies in row order, each at a place or behind it and inside the bundle, the next from where this one would then end
unfoldable pub Behind : ℕ → ℕ → List Row → Type 0
Behind end place [] = Unit {0}
Behind end place (r ∷ rows) = (place ≤ r.offset) × (r.offset + r.length ≤ end) × Behind end (next_offset place r) rows

pub record BodiesInOrder (b : List ℕ) (kept : ℕ) : Type 0 where
  pub few : kept ≤ most_rows
  pub fits : length b ≤ most_bytes
  pub there : first_offset kept ≤ length b
  pub behind : Behind (length b) (first_offset kept) (rows_of kept (drop 2 b))

-- Each body stands where the one before it ends, the first behind the rows, each row has that offset, and the last ends at a place.
pub record Placed (b : List ℕ) (kept end : ℕ) (after : List ℕ) : Type 0 where
  pub ends : end ≡ first_offset kept + length (pieces (body_in b) (rows_of kept (drop 2 b)))
  pub holds :
      after
      ≡ laid (laid b (first_offset kept) (pieces (body_in b) (rows_of kept (drop 2 b)))) 2
      (bytes_of_rows (placed_from (first_offset kept) (rows_of kept (drop 2 b))))
