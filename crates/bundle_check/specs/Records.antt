-- 01, "The run bundle": what a bundle holds, and the bundle that holds it.
use Rattle.std.specs.Prelude.{ℕ, ◌+◌, List, [], ◌∷◌, ◌++◌, length, take, drop}
use Rattle.base_numbers.specs.Numbers.{bytes_of}
use Rattle.bundle_rows.specs.Rows.{first_offset, bytes_of_rows}
use Rattle.bundle_rows.specs.declared.Row.{Row}
use Rattle.bundle_check.specs.Bundles.{contents_of, bodies_of}
use Rattle.bundle_check.specs.RowRules.{next_offset}

-- What was sent or heard at a position, the start of its first character, and its bytes.
pub record Recorded : Type 0 where
  pub position : ℕ
  pub direction : ℕ
  pub time : ℕ
  pub body : List ℕ

-- a record with nothing in it, for a place past the last
abbrev pub blank_record : Recorded
blank_record = record { position = 0; direction = 0; time = 0; body = [] }

-- the time of what was recorded, whatever the one before had
abbrev pub record_time : ℕ → Recorded → ℕ
record_time before k = k.time

-- What a bundle holds: what each row says, with the stretch of the bodies that is its own.
unfoldable pub records_in : List Row → List ℕ → List Recorded
records_in [] s = []
records_in (r ∷ rows) s =
    record { position = r.position; direction = r.direction; time = r.time; body = take r.length s } ∷ records_in rows (drop r.length s)

abbrev pub records_of : List ℕ → List Recorded
records_of b = records_in (contents_of b) (bodies_of b)

-- the row of what was recorded, its body at an offset
abbrev pub row_for : ℕ → Recorded → Row
row_for offset k = record { position = k.position; direction = k.direction; time = k.time; offset = offset; length = length k.body }

-- the bodies in row order without gaps, the first at an offset
unfoldable pub rows_for : ℕ → List Recorded → List Row
rows_for offset [] = []
rows_for offset (k ∷ ks) = row_for offset k ∷ rows_for (offset + length k.body) ks

unfoldable pub bodies_for : List Recorded → List ℕ
bodies_for [] = []
bodies_for (k ∷ ks) = k.body ++ bodies_for ks

-- Count n, 2 bytes. Then n contents rows. Then the bodies, first offset 2 + 12 × n.
abbrev pub bundle_of : List Recorded → List ℕ
bundle_of ks = bytes_of 2 (length ks) ++ (bytes_of_rows (rows_for (first_offset (length ks)) ks) ++ bodies_for ks)

-- the row with its body at another offset
abbrev pub moved_to : ℕ → Row → Row
moved_to o r = record { position = r.position; direction = r.direction; time = r.time; offset = o; length = r.length }

-- the rows with their bodies from an offset on without gaps
unfoldable pub placed_from : ℕ → List Row → List Row
placed_from o [] = []
placed_from o (r ∷ rows) = moved_to o r ∷ placed_from (next_offset o r) rows
