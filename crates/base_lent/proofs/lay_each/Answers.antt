-- `base_lent::lay_each` meets its contract: so many bytes are copied.
use Prim.Native.Nat.{◌+◌}
use mathlib.Core.Path.{refl, sym, ◌∙◌}
use native.Mathlib.Omega.{arith}
use borrow.Author.Tests.{ltb-false}
use lib.ListN.{length}
use Rattle.base_lent.proofs.Laws.Copying.{copied_none, copied_next, copied_length, copied_whole}
use Rattle.base_lent.proofs.lay_each.Goals as goal

pub returns-then-is_past : goal.returns-then-is_past
returns-then-is_past c = rw (← c.is_past.ensures, c.if-is_past.true)

pub loop-i-init : goal.loop-i-init
loop-i-init c =
    let start = c in
    copied_none (ltb-false (length start.args.to.now)
    (start.args.at + length start.args.from.now)
    (sym c.is_past.ensures ∙ c.if-is_past.false))

pub overflow_add-to : goal.overflow_add-to
overflow_add-to c = let n = copied_length c.loop-i.invariant in omega (arith, c.loop-i.invariant.fits)

pub bounds-to-at : goal.bounds-to-at
bounds-to-at c = let n = copied_length c.loop-i.invariant in omega (arith, c.loop-i.invariant.fits)

pub loop-i-preserved : goal.loop-i-preserved
loop-i-preserved c = copied_next c.loop-i.invariant 0 c.loop-i-test.true refl

pub shape_of-to : goal.shape_of-to
shape_of-to c = copied_length c.loop-i.invariant

pub returns : goal.returns
returns c = copied_whole c.loop-i.invariant c.loop-i-test.false
