-- `bundle_sweep::drawing::draw_rows` meets its contract: each row that is left moves up.
use native.Mathlib.Omega.{arith}
use Rattle.bundle_sweep.proofs.Laws.Drawing.{drawing_none, drawing_length, drawing_few, drawing_whole}
use Rattle.bundle_sweep.proofs.Laws.Drawing.{drawing-inside, drawing-gone, drawing-next, drawing_all}
use Rattle.bundle_sweep.proofs.drawing.draw_rows.Goals.{then-not-gone, else-not-gone}
use Rattle.bundle_sweep.proofs.drawing.draw_rows.Goals as goal

pub loop-i-init : goal.loop-i-init
loop-i-init c = drawing_none c.requires

pub goes_at-gone-requires : goal.goes_at-gone-requires
goes_at-gone-requires c = drawing-inside c.loop-i.invariant c.loop-i-test.true

pub overflow_mul-i : goal.overflow_mul-i
overflow_mul-i c =
    let g = c.loop-i.invariant in omega (arith, drawing_few g)

pub overflow_add-i : goal.overflow_add-i
overflow_add-i c =
    let g = c.loop-i.invariant in omega (arith, drawing_few g)

pub overflow_mul-kept : goal.overflow_mul-kept
overflow_mul-kept c =
    let g = c.loop-i.invariant in omega (arith, g.few, drawing_few g)

pub overflow_add-kept : goal.overflow_add-kept
overflow_add-kept c =
    let g = c.loop-i.invariant in omega (arith, g.few, drawing_few g)

pub move_down-requires : goal.move_down-requires
move_down-requires c =
    let g = c.loop-i.invariant in (omega (arith, g.few), omega (arith, drawing_whole g))

pub overflow_add-kept-then-not-gone : goal.overflow_add-kept-then-not-gone
overflow_add-kept-then-not-gone c =
    let g = c.loop-i.invariant in omega (arith, g.few, drawing_few g)

pub loop-i-preserved : goal.loop-i-preserved
loop-i-preserved c =
    let h = c.loop-i-test.true in
    let e = c.goes_at-gone.ensures in
    elim c.if-not-gone.branch [
      | then-not-gone w ↦ rw (w.bundle-is, w.kept-is) (drawing-next c.loop-i.invariant h e w.if-not-gone.true w.move_down.ensures)
      | else-not-gone w ↦ rw (w.bundle-is, w.kept-is) (drawing-gone c.loop-i.invariant h e w.if-not-gone.false)
    ]

pub shape_of-bundle : goal.shape_of-bundle
shape_of-bundle c = drawing_length c.loop-i.invariant

pub returns : goal.returns
returns c = drawing_all c.loop-i.invariant c.loop-i-test.false
