-- `bundle_columns::making::put_list` meets its contract: so many numbers of the list are laid.
use native.Mathlib.Omega.{arith}
use Rattle.base_lent.proofs.Laws.PieceLaws.{pieced_length, pieced_room, pieced_all}
use Rattle.bundle_check.proofs.Laws.BodyLaws.{few_rows}
use Rattle.bundle_columns.proofs.Laws.Fields.{length_list, list_none, list_next}
use Rattle.bundle_columns.proofs.making.put_list.Goals as goal

pub loop-i-init : goal.loop-i-init
loop-i-init c =
    let a = c.args in
    let p = c.requires in
    list_none a.place a.width a.bundle.count a.bundle.bytes.now a.out.now a.at (few_rows a.bundle.bytes.now a.bundle.count a.bundle.accepted) p.2

pub overflow_mul-width : goal.overflow_mul-width
overflow_mul-width c =
    let a = c.args in
    let inv = c.loop-i.invariant in
    omega (
      arith,
      pieced_length inv,
      pieced_room inv (omega (
        arith,
        c.loop-i-test.true,
        length_list a.place a.width a.bundle.count a.bundle.bytes.now (few_rows a.bundle.bytes.now a.bundle.count a.bundle.accepted),
      )),
    )

pub overflow_add-at : goal.overflow_add-at
overflow_add-at c =
    let a = c.args in
    let inv = c.loop-i.invariant in
    omega (
      arith,
      pieced_length inv,
      pieced_room inv (omega (
        arith,
        c.loop-i-test.true,
        length_list a.place a.width a.bundle.count a.bundle.bytes.now (few_rows a.bundle.bytes.now a.bundle.count a.bundle.accepted),
      )),
    )

pub loop-i-preserved : goal.loop-i-preserved
loop-i-preserved c =
    let a = c.args in
    list_next (few_rows a.bundle.bytes.now a.bundle.count a.bundle.accepted) c.requires.1 c.loop-i.invariant c.loop-i-test.true c.field-n.ensures
    c.put_number.ensures

pub shape_of-out : goal.shape_of-out
shape_of-out c = pieced_length c.loop-i.invariant

pub returns : goal.returns
returns c =
    let a = c.args in
    pieced_all c.loop-i.invariant (omega (arith, c.loop-i-test.false, length_list a.place a.width a.bundle.count a.bundle.bytes.now (few_rows a.bundle.bytes.now a.bundle.count a.bundle.accepted)))
