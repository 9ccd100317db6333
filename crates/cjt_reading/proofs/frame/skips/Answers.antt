-- `cjt_reading::frame::skips` meets its contract: what is left to be skipped is what there was.
use Rattle.cjt_reading.proofs.Laws.SkipLaws.{skipping_none, skipping_next, skipping_other, skipping_all}
use Rattle.cjt_reading.proofs.frame.skips.Goals as goal

pub loop-n-init : goal.loop-n-init
loop-n-init c = skipping_none

pub returns-then-first : goal.returns-then-first
returns-then-first c = skipping_other c.loop-n.invariant c.byte_at-first.ensures c.if-first.true

pub loop-n-preserved : goal.loop-n-preserved
loop-n-preserved c = skipping_next c.loop-n.invariant c.loop-n-test.true c.byte_at-first.ensures c.if-first.false

pub returns : goal.returns
returns c = skipping_all c.loop-n.invariant c.loop-n-test.false
