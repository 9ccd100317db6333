-- `run_repeats::MarkedRows::put_earlier` meets its contract: the loop puts one number after the other.
use Prim.Native.Nat.{◌-◌}
use Rattle.run_repeats.proofs.Laws.Putting.{Putting}
use Rattle.run_repeats.proofs.MarkedRows.put_earlier.Given as goal

abbrev pub invariant-loop-i : goal.invariant-loop-i
invariant-loop-i l = Putting l.self.bundle.now l.initial.rows l.self.count l.i l.rows

abbrev pub decreases-loop-i : goal.decreases-loop-i
decreases-loop-i l = l.self.count - l.i
