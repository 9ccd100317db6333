-- `bundle_adding::growing::place_rows` meets its contract: the loop writes each row anew, with the offset of its body.
use native.Mathlib.Omega.{arith}
use Rattle.bundle_adding.proofs.Laws.Writing.{placing_none, placing_next, placing_all}
use Rattle.bundle_adding.proofs.growing.place_rows.Goals as goal

pub loop-i-init : goal.loop-i-init
loop-i-init c = placing_none c.requires.0 c.requires.1 c.requires.2

pub overflow_add-at : goal.overflow_add-at
overflow_add-at c = omega (arith, c.struct_known-1.given)

pub loop-i-preserved : goal.loop-i-preserved
loop-i-preserved c =
    placing_next c.loop-i.invariant c.loop-i-test.true c.unchecked_row-row.ensures (omega (arith, c.struct_known-1.given))
    c.row_bytes-moved.ensures c.lay_each.ensures c.lay_each.auto.to

pub returns : goal.returns
returns c = placing_all c.loop-i.invariant c.loop-i-test.false
