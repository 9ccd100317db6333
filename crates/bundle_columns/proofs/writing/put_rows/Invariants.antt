-- `bundle_columns::writing::put_rows` meets its contract: so many rows are laid.
use Prim.Native.Nat.{◌-◌}
use Rattle.base_lent.proofs.Laws.PieceLaws.{Pieced}
use Rattle.bundle_rows.specs.Rows.{bytes_of_row}
use Rattle.bundle_columns.specs.Columns.{kept_from}
use Rattle.bundle_columns.specs.Record.{columns_in}
use Rattle.bundle_columns.proofs.writing.put_rows.Given as goal

abbrev pub invariant-loop-i : goal.invariant-loop-i
invariant-loop-i l = Pieced bytes_of_row 12 l.initial.out 2 (kept_from (columns_in l.columns) 0 l.count) l.i l.out

abbrev pub decreases-loop-i : goal.decreases-loop-i
decreases-loop-i l = l.count - l.i
