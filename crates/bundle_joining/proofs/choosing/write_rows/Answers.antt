-- `bundle_joining::choosing::write_rows` meets its contract: the count, and the rows of the position one by one.
use mathlib.Core.Path.{◌∙◌}
use native.Mathlib.Omega.{arith}
use Rattle.bundle_joining.proofs.Laws.Choosing.{rows_few, choosing_none, choosing_length, choosing_room, choosing_own}
use Rattle.bundle_joining.proofs.Laws.Choosing.{choosing_other, choosing_all, counted}
use borrow.Author.Tests.{eq-eqb, ne_eqb}
use Rattle.bundle_joining.proofs.choosing.write_rows.Goals.{then-own, else-own}
use Rattle.bundle_joining.proofs.choosing.write_rows.Goals as goal

pub overflow_mul-at : goal.overflow_mul-at
overflow_mul-at c =
    let a = c.args in
    omega (arith, rows_few a.position a.bundle.bytes.now a.bundle.count a.bundle.accepted c.requires.0 a.out.now c.requires.1)

pub overflow_add-at : goal.overflow_add-at
overflow_add-at c =
    let a = c.args in
    omega (arith, rows_few a.position a.bundle.bytes.now a.bundle.count a.bundle.accepted c.requires.0 a.out.now c.requires.1)

pub loop-i-init : goal.loop-i-init
loop-i-init c =
    choosing_none c.args.position c.args.bundle.bytes.now c.args.bundle.count c.args.bundle.accepted c.requires.0 c.args.out.now
    c.requires.1 c.put_number.ensures

pub put_row-at-requires : goal.put_row-at-requires
put_row-at-requires c =
    choosing_room c.loop-i.invariant c.loop-i-test.true c.row-row.ensures (eq-eqb _ _ c.if-own.true)

pub overflow_add-k : goal.overflow_add-k
overflow_add-k c =
    let room = choosing_room c.loop-i.invariant c.loop-i-test.true c.row-row.ensures
    (eq-eqb _ _ c.if-own.true) in
    omega (arith, room.1)

pub loop-i-preserved : goal.loop-i-preserved
loop-i-preserved c =
    let g = c.loop-i.invariant in
    let h = c.loop-i-test.true in
    let e = c.row-row.ensures in
    elim c.if-own.branch [
      | then-own w ↦ rw (w.out-is, w.at-is, w.k-is) (choosing_own g h e (eq-eqb _ _ w.if-own.true) w.put_row-at.ensures.0 w.put_row-at.ensures.1)
      | else-own w ↦ rw (w.out-is, w.at-is, w.k-is) (choosing_other g h e (ne_eqb _ _ w.if-own.false))
    ]

pub shape_of-out : goal.shape_of-out
shape_of-out c =
    choosing_length c.loop-i.invariant
    ∙ counted c.args.position c.args.bundle.bytes.now c.args.bundle.count c.args.bundle.accepted c.requires.0 c.args.out.now
    c.requires.1 c.put_number.ensures

pub returns : goal.returns
returns c =
    choosing_all c.args.position c.args.bundle.bytes.now c.args.bundle.count c.args.bundle.accepted c.requires.0 c.args.out.now
    c.requires.1 c.put_number.ensures c.loop-i.invariant c.loop-i-test.false
