-- `bundle_check::walk::walk_rows` meets its contract: the loop walks along the rows.
use Prim.Native.Nat.{◌-◌}
use Rattle.bundle_check.proofs.Laws.Walking.{Along}
use Rattle.bundle_check.proofs.walk.walk_rows.Given as goal

abbrev pub invariant-loop-i : goal.invariant-loop-i
invariant-loop-i l = Along l.bundle l.count l.i l.before l.at l.field l.place

abbrev pub decreases-loop-i : goal.decreases-loop-i
decreases-loop-i l = l.count - l.i
