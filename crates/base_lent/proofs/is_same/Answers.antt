-- `base_lent::is_same` meets its contract: whether the bytes are alike up to the place that the loop has reached.
use native.Mathlib.Omega.{arith}
use Rattle.base_lent.proofs.Laws.Same.{alike_none, alike_next, alike_all, differ_length}
use Rattle.base_lent.proofs.is_same.Goals as goal

pub returns-then-s-t : goal.returns-then-s-t
returns-then-s-t c = differ_length c.args.s.now c.args.t.now c.if-s-t.true

pub loop-i-init : goal.loop-i-init
loop-i-init c = alike_none c.if-s-t.false

pub bounds-t-i : goal.bounds-t-i
bounds-t-i c = omega (arith, c.loop-i.invariant.places)

pub loop-i-preserved : goal.loop-i-preserved
loop-i-preserved c = alike_next c.loop-i.invariant c.loop-i-test.true

pub returns : goal.returns
returns c = alike_all c.loop-i.invariant c.loop-i-test.false
