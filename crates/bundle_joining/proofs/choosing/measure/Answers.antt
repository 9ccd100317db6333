-- `bundle_joining::choosing::measure` meets its contract: rows of the position and bytes of their bodies so far.
use native.Mathlib.Omega.{arith}
use Rattle.bundle_joining.proofs.Laws.Choosing.{measured_none, measured_few, measured_own, measured_other, measured_all}
use borrow.Author.Tests.{eq-eqb, ne_eqb}
use Rattle.bundle_joining.proofs.choosing.measure.Goals.{then-own, else-own}
use Rattle.bundle_joining.proofs.choosing.measure.Goals as goal

pub loop-i-init : goal.loop-i-init
loop-i-init c = measured_none c.args.bundle.accepted

pub overflow_add-rows : goal.overflow_add-rows
overflow_add-rows c = omega (arith, (measured_few c.loop-i.invariant).0)

pub overflow_add-bytes : goal.overflow_add-bytes
overflow_add-bytes c =
    let g = measured_own c.loop-i.invariant c.loop-i-test.true c.row-row.ensures (eq-eqb _ _ c.if-own.true) in
    omega (arith, (measured_few g).1)

pub loop-i-preserved : goal.loop-i-preserved
loop-i-preserved c =
    let g = c.loop-i.invariant in
    let h = c.loop-i-test.true in
    let e = c.row-row.ensures in
    elim c.if-own.branch [
      | then-own w ↦ rw (w.rows-is, w.bytes-is) (measured_own g h e (eq-eqb _ _ w.if-own.true))
      | else-own w ↦ rw (w.rows-is, w.bytes-is) (measured_other g h e (ne_eqb _ _ w.if-own.false))
    ]

pub returns : goal.returns
returns c = measured_all c.loop-i.invariant c.loop-i-test.false
