-- `bundle_sweep::placing::place_bodies` meets its contract: body by body, and row by row.
use Prim.Native.Nat.{◌-◌}
use Rattle.bundle_sweep.proofs.Laws.Placing.{Placing}
use Rattle.bundle_sweep.proofs.placing.place_bodies.Given as goal

abbrev pub invariant-loop-i : goal.invariant-loop-i
invariant-loop-i l = Placing l.initial.bundle l.kept l.i l.at l.bundle

abbrev pub decreases-loop-i : goal.decreases-loop-i
decreases-loop-i l = l.kept - l.i
