-- `mbus_writable::any_used` meets its contract: what was found so far, or is in the rest, is what there is.
use Rattle.base_rules.proofs.Laws.ListLaws.{gathered_next, gathered_all}
use Rattle.mbus_writable.proofs.any_used.Goals as goal

pub loop-entry-preserved : goal.loop-entry-preserved
loop-entry-preserved c = rw c.used_entry-found.ensures (gathered_next _ c.loop-entry.invariant c.loop-entry-test.true)

pub returns : goal.returns
returns c = gathered_all c.loop-entry.invariant c.loop-entry-test.false
