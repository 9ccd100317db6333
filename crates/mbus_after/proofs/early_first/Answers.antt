-- `mbus_after::early_first` meets its contract: every time passed is before t.
use native.Mathlib.Omega.{arith}
use native.Mathlib.Nat.{zero-add}
use Rattle.mbus_after.proofs.Laws.Walks.{early_end, early_here, early_next}
use Rattle.mbus_after.proofs.early_first.Goals as goal

pub loop-i-init : goal.loop-i-init
loop-i-init c = zero-add _

pub returns-then-t-time : goal.returns-then-t-time
returns-then-t-time c = (omega arith, omega (arith, c.loop-i.invariant, early_here c.args.t c.args.times.now c.loop-i.i c.loop-i-test.true c.if-t-time.true))

pub loop-i-preserved : goal.loop-i-preserved
loop-i-preserved c = omega (arith, c.loop-i.invariant, early_next c.args.t c.args.times.now c.loop-i.i c.loop-i-test.true c.if-t-time.false)

pub returns : goal.returns
returns c = (omega arith, omega (arith, c.loop-i.invariant, early_end c.args.t c.args.times.now c.loop-i.i (omega arith)))
