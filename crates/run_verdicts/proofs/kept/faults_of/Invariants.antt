-- `run_verdicts::kept::faults_of` meets its contract: each turn tries one row.
use Prim.Native.Nat.{◌-◌}
use Rattle.run_verdicts.specs.Walking.{Tried}
use Rattle.run_verdicts.proofs.Laws.Answering.{Tries}
use Rattle.run_verdicts.proofs.kept.faults_of.Given as goal

abbrev pub invariant-loop-i : goal.invariant-loop-i
invariant-loop-i l = (t : Tried l.columns l.count) × Tries t l.end l.i l.before l.field l.place

abbrev pub decreases-loop-i : goal.decreases-loop-i
decreases-loop-i l = l.count - l.i
