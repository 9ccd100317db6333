-- `bundle_salvage::leading::leading_rows` meets its contract: the loop tries the rows one by one.
use Prim.Native.Nat.{◌-◌}
use native.Mathlib.Omega.{arith}
use Rattle.bundle_salvage.proofs.Laws.Trying.{trying_none, trying-next, trying-broken, trying_all}
use borrow.Author.Tests.{eq-eqb, ne_eqb}
use mathlib.Core.Path.{ap}
use mathlib.Core.Bool.{not}
use Rattle.bundle_salvage.proofs.leading.leading_rows.Goals as goal

pub overflow_mul-at : goal.overflow_mul-at
overflow_mul-at c = omega (arith, c.requires.few)

pub overflow_add-at : goal.overflow_add-at
overflow_add-at c = omega (arith, c.requires.few)

pub loop-i-init : goal.loop-i-init
loop-i-init c = trying_none c.requires

pub rule_of-rule-requires : goal.rule_of-rule-requires
rule_of-rule-requires c = let g = c.loop-i.invariant in (omega (arith, g.near, g.whole.fits), g.whole.fits)

pub returns-then-broken : goal.returns-then-broken
returns-then-broken c =
    trying-broken c.loop-i.invariant c.loop-i-test.true c.unchecked_row-row.ensures
    c.rule_of-rule.ensures (ap not (ne_eqb _ _ c.if-broken.true))

pub overflow_add-at-in-loop-i : goal.overflow_add-at-in-loop-i
overflow_add-at-in-loop-i c =
    let g = c.loop-i.invariant in
    omega (arith, c.struct_known-1.given, g.near, g.whole.fits)

pub loop-i-preserved : goal.loop-i-preserved
loop-i-preserved c =
    trying-next c.loop-i.invariant c.loop-i-test.true c.unchecked_row-row.ensures
    c.rule_of-rule.ensures (ap not (eq-eqb _ _ c.if-broken.false))

pub returns : goal.returns
returns c = trying_all c.loop-i.invariant c.loop-i-test.false
