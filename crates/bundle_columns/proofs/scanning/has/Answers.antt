-- `bundle_columns::scanning::has` meets its contract: the loop gathers over the block.
use Rattle.base_rules.proofs.Laws.ListLaws.{gathered_none, gathered_next, gathered_all}
use Rattle.bundle_columns.proofs.scanning.has.Goals as goal

pub loop-own-init : goal.loop-own-init
loop-own-init c = gathered_none

pub loop-own-preserved : goal.loop-own-preserved
loop-own-preserved c = gathered_next 0 c.loop-own.invariant c.loop-own-test.true

pub returns : goal.returns
returns c = gathered_all c.loop-own.invariant c.loop-own-test.false
