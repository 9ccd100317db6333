-- `run_repeats::mark_rows` meets its contract: the loop marks one row after the other.
use Prim.Native.Nat.{◌-◌}
use Rattle.run_repeats.proofs.Laws.Marking.{Marking}
use Rattle.run_repeats.proofs.mark_rows.Given as goal

abbrev pub invariant-loop-i : goal.invariant-loop-i
invariant-loop-i l = Marking l.bundle.bytes.now l.bundle.count l.i l.marks

abbrev pub decreases-loop-i : goal.decreases-loop-i
decreases-loop-i l = l.bundle.count - l.i
