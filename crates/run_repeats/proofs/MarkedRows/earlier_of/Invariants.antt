-- `run_repeats::MarkedRows::earlier_of` meets its contract: the loop leaves at the first row that gives the same reading.
use Prim.Native.Nat.{◌-◌}
use Rattle.run_repeats.proofs.Laws.Looking.{Looking}
use Rattle.run_repeats.proofs.MarkedRows.earlier_of.Given as goal

abbrev pub invariant-loop-j : goal.invariant-loop-j
invariant-loop-j l = Looking l.self.bundle.now l.i l.j

abbrev pub decreases-loop-j : goal.decreases-loop-j
decreases-loop-j l = l.i - l.j
