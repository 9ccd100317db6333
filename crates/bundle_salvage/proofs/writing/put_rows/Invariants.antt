-- `bundle_salvage::writing::put_rows` meets its contract: so many rows are laid.
use Prim.Native.Nat.{◌-◌}
use Rattle.base_lent.proofs.Laws.PieceLaws.{Pieced}
use Rattle.bundle_rows.specs.Rows.{bytes_of_row}
use Rattle.bundle_salvage.specs.Writing.{lowered_rows}
use Rattle.bundle_salvage.proofs.writing.put_rows.Given as goal

abbrev pub invariant-loop-i : goal.invariant-loop-i
invariant-loop-i l = Pieced bytes_of_row 12 l.initial.out 2 (lowered_rows l.kept (l.count - l.kept) l.damaged) l.i l.out

abbrev pub decreases-loop-i : goal.decreases-loop-i
decreases-loop-i l = l.kept - l.i
