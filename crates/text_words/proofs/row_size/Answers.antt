-- `text_words::row_size` meets its contract: the loop stops at the first line feed.
use native.Mathlib.Omega.{arith}
use Rattle.text_words.proofs.Laws.Rows.{passed_none, passed_end, passed_on, passed_all}
use Rattle.text_words.proofs.row_size.Goals as goal

pub loop-i-init : goal.loop-i-init
loop-i-init c = passed_none c.args.rest.now

pub returns-then-byte-eq10 : goal.returns-then-byte-eq10
returns-then-byte-eq10 c = passed_end c.loop-i.invariant c.loop-i-test.true c.if-byte-eq10.true

pub loop-i-preserved : goal.loop-i-preserved
loop-i-preserved c = passed_on c.loop-i.invariant c.loop-i-test.true c.if-byte-eq10.false

pub returns : goal.returns
returns c = passed_all c.loop-i.invariant (omega arith)
