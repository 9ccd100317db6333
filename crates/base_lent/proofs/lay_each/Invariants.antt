-- `base_lent::lay_each` meets its contract: so many bytes are copied.
use Prim.Native.Nat.{◌-◌}
use lib.ListN.{length}
use Rattle.base_lent.proofs.Laws.Copying.{Copied}
use Rattle.base_lent.proofs.lay_each.Given as goal

abbrev pub invariant-loop-i : goal.invariant-loop-i
invariant-loop-i l = Copied l.initial.to l.at l.from l.i l.to

abbrev pub decreases-loop-i : goal.decreases-loop-i
decreases-loop-i l = length l.from - l.i
