-- `bundle_joining::choosing::measure` meets its contract: rows of the position and bytes of their bodies so far.
use Prim.Native.Nat.{◌-◌}
use Rattle.bundle_joining.proofs.Laws.Choosing.{Measured}
use Rattle.bundle_joining.proofs.choosing.measure.Given as goal

abbrev pub invariant-loop-i : goal.invariant-loop-i
invariant-loop-i l = Measured l.position l.bundle.bytes.now l.bundle.count l.i l.rows l.bytes

abbrev pub decreases-loop-i : goal.decreases-loop-i
decreases-loop-i l = l.bundle.count - l.i
