-- `mbus_after::find_line_after` meets its contract: from each place tried on the answer is the same.
use Prim.Native.Nat.{◌-◌}
use lib.ListN.{length}
use Rattle.mbus_after.proofs.Laws.Walks.{After}
use Rattle.mbus_after.proofs.find_line_after.Given as goal

abbrev pub invariant-loop-place : goal.invariant-loop-place
invariant-loop-place l = After l.t l.capture l.times l.place

abbrev pub decreases-loop-place : goal.decreases-loop-place
decreases-loop-place l = length l.capture - l.place
