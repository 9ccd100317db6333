-- `bundle_sweep::drawing::draw_rows` meets its contract: each row that is left moves up.
use Prim.Native.Nat.{◌-◌}
use Rattle.bundle_sweep.proofs.Laws.Drawing.{Drawing}
use Rattle.bundle_sweep.proofs.drawing.draw_rows.Given as goal

abbrev pub invariant-loop-i : goal.invariant-loop-i
invariant-loop-i l = Drawing l.position l.initial.bundle l.count l.i l.kept l.bundle

abbrev pub decreases-loop-i : goal.decreases-loop-i
decreases-loop-i l = l.count - l.i
