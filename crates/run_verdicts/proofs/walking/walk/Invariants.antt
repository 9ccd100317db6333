-- `run_verdicts::walking::walk` meets its contract: each turn judges one row.
use Prim.Native.Nat.{◌-◌}
use Rattle.run_verdicts.specs.Walking.{record_from}
use Rattle.run_verdicts.proofs.Laws.Walking.{Walked}
use Rattle.run_verdicts.proofs.walking.walk.Given as goal

abbrev pub invariant-loop-i : goal.invariant-loop-i
invariant-loop-i g l = Walked (record_from (g.R.Rows.row_at l.rows) l.bundle) l.count l.i l.slots l.verdicts

abbrev pub decreases-loop-i : goal.decreases-loop-i
decreases-loop-i g l = l.count - l.i
