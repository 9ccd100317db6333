-- `bundle_joining::position::choose` meets its contract: measured, and written where there is room.
use mathlib.Core.Path.{ap}
use native.Mathlib.Omega.{arith}
use Rattle.bundle_joining.specs.declared.choosing.Size.{Size}
use Rattle.bundle_joining.proofs.Laws.Choosing.{own_length, own_bounded}
use Rattle.bundle_joining.proofs.Laws.ChoosingShown.{choosing-short, choosing-done}
use borrow.Author.Tests.{le-ltb, lt-ltb}
use Rattle.bundle_joining.proofs.position.choose.Goals as goal

pub overflow_mul-filled : goal.overflow_mul-filled
overflow_mul-filled c =
    omega (arith, own_bounded c.args.position c.args.bundle.bytes.now c.args.bundle.count c.args.bundle.accepted c.measure-size.ensures)

pub overflow_add-filled : goal.overflow_add-filled
overflow_add-filled c =
    omega (arith, own_bounded c.args.position c.args.bundle.bytes.now c.args.bundle.count c.args.bundle.accepted c.measure-size.ensures)

pub overflow_add-filled-2 : goal.overflow_add-filled-2
overflow_add-filled-2 c =
    omega (arith, own_bounded c.args.position c.args.bundle.bytes.now c.args.bundle.count c.args.bundle.accepted c.measure-size.ensures)

pub returns-then-out-filled : goal.returns-then-out-filled
returns-then-out-filled c =
    let a = c.args in
    choosing-short a.bundle.bytes.now a.position a.out.now a.bundle.count a.bundle.accepted c.requires
    (own_length a.position a.bundle.bytes.now a.bundle.count a.bundle.accepted c.measure-size.ensures) (lt-ltb _ _ c.if-out-filled.true)

pub write_rows-requires : goal.write_rows-requires
write_rows-requires c =
    let a = c.args in
    let q = c.measure-size.ensures in (
      ap (λ (s : Size). s.rows) q,
      rw (own_length a.position a.bundle.bytes.now a.bundle.count a.bundle.accepted q) (c.if-out-filled.false),
    )

pub returns : goal.returns
returns c =
    let a = c.args in
    choosing-done a.bundle.bytes.now a.position a.out.now a.bundle.count a.bundle.accepted c.requires
    (own_length a.position a.bundle.bytes.now a.bundle.count a.bundle.accepted c.measure-size.ensures) (le-ltb _ _ c.if-out-filled.false)
    c.write_rows.ensures
