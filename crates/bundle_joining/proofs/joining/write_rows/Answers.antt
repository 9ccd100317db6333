-- `bundle_joining::joining::write_rows` meets its contract: the count, and the rows of both one by one.
use mathlib.Core.Path.{sym, ◌∙◌}
use native.Mathlib.Omega.{arith}
use Rattle.bundle_joining.proofs.Laws.Joining.{joining_none, joining_length, more_b, room-b, joining-b, more_a, room-a, joining-a, joining_all}
use Rattle.bundle_joining.proofs.Laws.Joining.{counted}
use Rattle.bundle_joining.proofs.joining.write_rows.Goals.{then-of_b, else-of_b}
use Rattle.bundle_joining.proofs.joining.write_rows.Goals as goal

pub overflow_add-rows : goal.overflow_add-rows
overflow_add-rows c = let f = c.requires in omega (arith, f.few)

pub overflow_mul-at : goal.overflow_mul-at
overflow_mul-at c = let f = c.requires in omega (arith, f.few)

pub overflow_add-at : goal.overflow_add-at
overflow_add-at c = let f = c.requires in omega (arith, f.few)

pub loop-k-init : goal.loop-k-init
loop-k-init c = joining_none c.requires c.put_number.ensures

pub put_row-at-requires : goal.put_row-at-requires
put_row-at-requires c =
    room-b c.loop-k.invariant c.loop-k-test.true (sym c.is_from_b-of_b.ensures ∙ c.if-of_b.true)
    c.row-row.ensures

pub overflow_add-j : goal.overflow_add-j
overflow_add-j c =
    let g = c.loop-k.invariant in
    omega (arith, more_b g c.loop-k-test.true (sym c.is_from_b-of_b.ensures ∙ c.if-of_b.true))

pub put_row-at-requires-else-of_b : goal.put_row-at-requires-else-of_b
put_row-at-requires-else-of_b c =
    room-a c.loop-k.invariant c.loop-k-test.true (sym c.is_from_b-of_b.ensures ∙ c.if-of_b.false)
    c.row-row-else-of_b.ensures

pub overflow_add-i : goal.overflow_add-i
overflow_add-i c =
    let g = c.loop-k.invariant in
    omega (arith, more_a g c.loop-k-test.true (sym c.is_from_b-of_b.ensures ∙ c.if-of_b.false))

pub loop-k-preserved : goal.loop-k-preserved
loop-k-preserved c =
    let g = c.loop-k.invariant in
    let h = c.loop-k-test.true in
    let e = sym c.is_from_b-of_b.ensures in
    elim c.if-of_b.branch [
      | then-of_b w ↦
          rw (w.out-is, w.at-is, w.i-is, w.j-is)
          (joining-b g h (e ∙ w.if-of_b.true) w.row-row.ensures w.put_row-at.ensures.0 w.put_row-at.ensures.1)
      | else-of_b w ↦
          rw (w.out-is, w.at-is, w.i-is, w.j-is)
          (joining-a g h (e ∙ w.if-of_b.false) w.row-row-else-of_b.ensures w.put_row-at-else-of_b.ensures.0 w.put_row-at-else-of_b.ensures.1)
    ]

pub shape_of-out : goal.shape_of-out
shape_of-out c =
    joining_length c.loop-k.invariant ∙ counted c.requires c.put_number.ensures

pub returns : goal.returns
returns c =
    joining_all c.requires c.put_number.ensures c.loop-k.invariant c.loop-k-test.false
