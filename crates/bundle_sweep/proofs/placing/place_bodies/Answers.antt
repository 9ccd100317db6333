-- `bundle_sweep::placing::place_bodies` meets its contract: body by body, and row by row.
use native.Mathlib.Omega.{arith}
use Rattle.bundle_sweep.proofs.Laws.Placing.{placing_none, placing_length, placing_near, placing-room, placing_next, placing_all}
use Rattle.bundle_sweep.proofs.placing.place_bodies.Goals as goal

pub overflow_mul-at : goal.overflow_mul-at
overflow_mul-at c = let o = c.requires in omega (arith, o.few)

pub overflow_add-at : goal.overflow_add-at
overflow_add-at c = let o = c.requires in omega (arith, o.few)

pub loop-i-init : goal.loop-i-init
loop-i-init c = placing_none c.requires

pub move_down-requires : goal.move_down-requires
move_down-requires c =
    placing-room c.loop-i.invariant c.loop-i-test.true c.unchecked_row-row.ensures

pub overflow_cast-offset : goal.overflow_cast-offset
overflow_cast-offset c =
    omega (arith, placing_near c.loop-i.invariant)

pub overflow_mul-i : goal.overflow_mul-i
overflow_mul-i c =
    omega (arith, c.loop-i.invariant.order.few)

pub overflow_add-i : goal.overflow_add-i
overflow_add-i c =
    omega (arith, c.loop-i.invariant.order.few)

pub overflow_add-at-in-loop-i : goal.overflow_add-at-in-loop-i
overflow_add-at-in-loop-i c =
    let g = c.loop-i.invariant in
    let room = placing-room g c.loop-i-test.true c.unchecked_row-row.ensures in
    omega (arith, placing_near g, placing_length g, room.1)

pub loop-i-preserved : goal.loop-i-preserved
loop-i-preserved c =
    placing_next c.loop-i.invariant c.loop-i-test.true c.unchecked_row-row.ensures
    c.move_down.ensures c.row_bytes-placed.ensures c.lay_each.ensures

pub shape_of-bundle : goal.shape_of-bundle
shape_of-bundle c = placing_length c.loop-i.invariant

pub returns : goal.returns
returns c = placing_all c.loop-i.invariant c.loop-i-test.false
