-- 01, "The run bundle": what its rows must say, of themselves and of the bodies behind them.
use Rattle.std.specs.Prelude.{ℕ, ◌+◌, Bool, not, ◌||◌, List, ltb, eqb, length}
use Rattle.bundle_rows.specs.Fields.{wrong_field}
use Rattle.bundle_rows.specs.declared.Row.{Row}
use Rattle.bundle_check.specs.Walks.{some_wrong, end_of}

-- 34: a position, direction or length out of its range, or a time below the row before; before the first, times count from 0
abbrev pub wrong_row : ℕ → Row → Bool
wrong_row before r = wrong_field r.position r.direction r.length || ltb r.time before

abbrev pub row_time : ℕ → Row → ℕ
row_time before r = r.time

abbrev pub wrong_rows : ℕ → List Row → Bool
wrong_rows before rows = some_wrong wrong_row row_time before rows

-- the bodies in row order without gaps
abbrev pub next_offset : ℕ → Row → ℕ
next_offset place r = place + r.length

-- 35: an offset wrong or a body past the end
abbrev pub wrong_place : ℕ → ℕ → Row → Bool
wrong_place end place r = not (eqb r.offset place) || ltb end (next_offset place r)

abbrev pub wrong_places : ℕ → ℕ → List Row → Bool
wrong_places end place rows = some_wrong (wrong_place end) next_offset place rows

-- where the last body ends
abbrev pub bodies_end : ℕ → List Row → ℕ
bodies_end place rows = end_of next_offset place rows
