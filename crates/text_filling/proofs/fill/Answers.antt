-- `text_filling::fill` meets its contract: what is left of the text, with the numbers that are left, gives the whole.
use Rattle.std.proofs.Common.{drop, arith, eq-eqb, ne_eqb, rules}
use Rattle.text_filling.proofs.Laws.WritingLaws.{left_all, left_next, left_none, filled_with_hole, filled_with_byte, filled_with_end}
use Rattle.text_filling.proofs.fill.Goals.{then-hole, else-hole}
use Rattle.text_filling.proofs.fill.Goals as goal

pub loop-byte-init : goal.loop-byte-init
loop-byte-init c = (search rules, left_all (search rules) (search rules))

pub loop-byte-preserved : goal.loop-byte-preserved
loop-byte-preserved c =
    let a = c.args in
    let i = c.loop-byte.byte-index in
    let inv = c.loop-byte.invariant in
    let test = c.loop-byte-test.true in
    elim c.if-hole.branch [
      | then-hole w ↦
          let hole = filled_with_hole a.template.now a.numbers.now i c.loop-byte.used test (eq-eqb _ _ w.if-hole.true)
          w.number_or_none-n.ensures in
          rw (w.out-is, w.next-is, w.used-is) (omega arith, left_next inv.1 hole w.put_number-next.ensures)
      | else-hole w ↦
          let byte = filled_with_byte a.template.now a.numbers.now i c.loop-byte.used test (ne_eqb _ _ w.if-hole.false) in
          rw (w.out-is, w.next-is, w.used-is) (omega arith, left_next inv.1 byte w.put_byte-next.ensures)
    ]

pub returns : goal.returns
returns c =
    let a = c.args in
    let none = filled_with_end a.template.now (drop c.loop-byte.used a.numbers.now) c.loop-byte.byte-index c.loop-byte-test.false in
    left_none (rw none at c.loop-byte.invariant.1)
