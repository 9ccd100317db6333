-- `bundle_joining::choosing::write_rows` meets its contract: the count, and the rows of the position one by one.
use Prim.Native.Nat.{◌-◌}
use Rattle.bundle_joining.proofs.Laws.Choosing.{Choosing}
use Rattle.bundle_joining.proofs.choosing.write_rows.Given as goal

abbrev pub invariant-loop-i : goal.invariant-loop-i
invariant-loop-i l = Choosing l.position l.bundle.bytes.now l.bundle.count l.initial.out l.i l.k l.at l.out

abbrev pub decreases-loop-i : goal.decreases-loop-i
decreases-loop-i l = l.bundle.count - l.i
