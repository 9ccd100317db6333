-- `bundle_salvage::leading::leading_rows` meets its contract: the loop tries the rows one by one.
use Prim.Native.Nat.{◌-◌}
use Rattle.bundle_salvage.proofs.Laws.Trying.{Trying}
use Rattle.bundle_salvage.proofs.leading.leading_rows.Given as goal

abbrev pub invariant-loop-i : goal.invariant-loop-i
invariant-loop-i l = Trying l.damaged l.count l.i l.before l.at

abbrev pub decreases-loop-i : goal.decreases-loop-i
decreases-loop-i l = l.count - l.i
