-- `total_in` meets its contract: what is left has the whole total.
use borrow.Author.Rules.{rules}
use lib.ListN.{length}
use mathlib.Core.Path.{◌≡◌, sym, ◌∙◌}
use native.Mathlib.Omega.{arith}
use Rattle.meter_template.proofs.Laws.Walks.{total_here, total_next, total_none}
use Rattle.meter_template.proofs.total_in.Goals as goal

pub returns-then-holds : goal.returns-then-holds
returns-then-holds c =
    let a = c.args in
    let seven : length a.entries ≡ 7 = search rules in
    c.count_of.ensures ∙ sym (total_here a.quantity a.entries c.loop-e.e-index _ (omega (arith, c.loop-e-test.true)) (sym c.holds.ensures ∙ c.if-holds.true))
    ∙ c.loop-e.invariant

pub loop-e-preserved : goal.loop-e-preserved
loop-e-preserved c =
    let a = c.args in
    let seven : length a.entries ≡ 7 = search rules in
    total_next a.quantity a.entries c.loop-e.e-index _ (omega (arith, c.loop-e-test.true)) (sym c.holds.ensures ∙ c.if-holds.false) ∙ c.loop-e.invariant

pub returns : goal.returns
returns c =
    let a = c.args in
    let seven : length a.entries ≡ 7 = search rules in
    sym (total_none a.quantity a.entries c.loop-e.e-index (omega (arith, c.loop-e-test.false))) ∙ c.loop-e.invariant
