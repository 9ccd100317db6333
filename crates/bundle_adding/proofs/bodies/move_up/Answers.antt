-- `bundle_adding::bodies::move_up` meets its contract: the loop moves from the end down.
use Rattle.bundle_adding.proofs.Laws.Writing.{shifting_none, shifting_next, shifting_all}
use Rattle.bundle_adding.proofs.bodies.move_up.Goals as goal

pub loop-i-init : goal.loop-i-init
loop-i-init c = shifting_none c.requires.0 c.requires.1

pub loop-i-preserved : goal.loop-i-preserved
loop-i-preserved c = shifting_next c.loop-i.invariant c.loop-i-test.true

pub returns : goal.returns
returns c = shifting_all c.loop-i.invariant c.loop-i-test.false
