-- 01, "The run bundle": what one walk along the rows finds, and a loop that walks.
use Rattle.std.specs.Prelude.{ℕ, List, length, drop}
use Rattle.bundle_rows.specs.Rows.{rows_of, first_offset}
use Rattle.bundle_check.specs.declared.walk.Walk.{Walk}
use Rattle.bundle_check.specs.RowRules.{wrong_rows, wrong_places, bodies_end}

-- 34 and 35 over all rows, and the end of the last body
abbrev pub walk_of : ℕ → List ℕ → Walk
walk_of n b =
    let rows = rows_of n (drop 2 b) in
    record {
      field = wrong_rows 0 rows;
      place = wrong_places (length b) (first_offset n) rows;
      end = bodies_end (first_offset n) rows;
    }
