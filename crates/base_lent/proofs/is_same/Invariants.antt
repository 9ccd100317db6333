-- `base_lent::is_same` meets its contract: whether the bytes are alike up to the place that the loop has reached.
use Prim.Native.Nat.{◌-◌}
use lib.ListN.{length}
use Rattle.base_lent.proofs.Laws.Same.{Alike}
use Rattle.base_lent.proofs.is_same.Given as goal

abbrev pub invariant-loop-i : goal.invariant-loop-i
invariant-loop-i l = Alike l.s l.t l.i l.alike

abbrev pub decreases-loop-i : goal.decreases-loop-i
decreases-loop-i l = length l.s - l.i
