-- `bundle_adding::bodies::move_up` meets its contract: the loop moves from the end down.
use Prim.Native.Nat.{◌-◌}
use Rattle.bundle_adding.proofs.Laws.Writing.{Shifting}
use Rattle.bundle_adding.proofs.bodies.move_up.Given as goal

abbrev pub invariant-loop-i : goal.invariant-loop-i
invariant-loop-i l = Shifting l.by l.initial.buffer l.from l.to l.i l.buffer

abbrev pub decreases-loop-i : goal.decreases-loop-i
decreases-loop-i l = l.i - l.from
