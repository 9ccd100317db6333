-- `bundle_columns::making::put_list` meets its contract: so many numbers of the list are laid.
use Prim.Native.Nat.{◌-◌}
use Rattle.base_numbers.specs.Numbers.{bytes_of}
use Rattle.base_lent.proofs.Laws.PieceLaws.{Pieced}
use Rattle.bundle_rows.specs.Rows.{most_rows}
use Rattle.bundle_columns.specs.Making.{fields_in}
use Rattle.bundle_columns.proofs.making.put_list.Given as goal

abbrev pub invariant-loop-i : goal.invariant-loop-i
invariant-loop-i l = Pieced (bytes_of l.width) l.width l.initial.out l.at (fields_in l.place l.width l.bundle.count l.bundle.bytes.now) l.i l.out

abbrev pub decreases-loop-i : goal.decreases-loop-i
decreases-loop-i l = most_rows - l.i
