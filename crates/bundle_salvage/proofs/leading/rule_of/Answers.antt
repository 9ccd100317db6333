-- `bundle_salvage::leading::rule_of` meets its contract: each way out by the rule that is told there.
use Prim.Native.Nat.{ℕ, ◌+◌, ◌-◌}
use mathlib.Core.Bool.{◌||◌, true, false}
use mathlib.Core.Path.{◌≡◌, sym, ap, ◌∙◌}
use native.Mathlib.Omega.{arith}
use borrow.Author.Tests.{eq-eqb, ne_eqb, lt-ltb, le-ltb}
use lib.Dec.{ltb}
use lib.ListN.{length, take, drop}
use Rattle.base_rules.specs.Lists.{any}
use Rattle.base_characters.specs.Characters.{over, chars}
use Rattle.bundle_rows.specs.Rows.{body_in}
use Rattle.bundle_check.specs.RowRules.{wrong_row, wrong_place}
use Rattle.bundle_salvage.proofs.Laws.Leading.{rule_field, rule_place, rule_wide, rule_none}
use Rattle.bundle_salvage.proofs.leading.rule_of.Goals.{After-any_over-wide, After-wrong_field-wrong}
use Rattle.bundle_salvage.proofs.leading.rule_of.Goals as goal

-- 34 as it was tried
field_is : (c : After-wrong_field-wrong) → wrong_row c.args.before c.args.row
    ≡ (c.wrong_field-wrong.result || ltb c.args.row.time c.args.before)
field_is c = rw c.wrong_field-wrong.ensures

-- its body stands at its place
placed : (c : After-any_over-wide) → wrong_place (length c.args.damaged.now)
    c.args.at
    c.args.row ≡ false
placed c =
    let a = c.args in
    rw (
      eq-eqb a.row.offset a.at c.if-offset-at.false,
      le-ltb (length a.damaged.now) (a.at + a.row.length) c.if-damaged-end.false,
    )

-- and is the stretch that was looked at
stretch : (c : After-any_over-wide) → c.any_over-wide.result
    ≡ any over (chars (body_in c.args.damaged.now
    c.args.row))
stretch c =
    let a = c.args in
    let b = a.damaged.now in
    let size : a.at + a.row.length - a.at ≡ a.row.length = omega arith in
    c.any_over-wide.ensures ∙ ap (λ (k : ℕ). any over (chars (take k (drop a.at b)))) size
    ∙ ap (λ (k : ℕ). any over (chars (take a.row.length (drop k b)))) (sym c.if-offset-at.false)

pub returns-then-field : goal.returns-then-field
returns-then-field c =
    let a = c.args in
    sym (rule_field a.damaged.now a.before a.at a.row (field_is (goal.at.returns-then-field c).After-wrong_field-wrong ∙ c.if-field.true))

pub overflow_add-end : goal.overflow_add-end
overflow_add-end c =
    omega (arith, c.struct_known-1.given)

pub returns-then-offset-at : goal.returns-then-offset-at
returns-then-offset-at c =
    let a = c.args in
    sym (rule_place a.damaged.now a.before a.at a.row (field_is (goal.at.returns-then-offset-at c).After-wrong_field-wrong ∙ c.if-field.false)
    (rw (ne_eqb a.row.offset a.at c.if-offset-at.true)))

pub returns-then-damaged-end : goal.returns-then-damaged-end
returns-then-damaged-end c =
    let a = c.args in
    sym (rule_place a.damaged.now a.before a.at a.row (field_is (goal.at.returns-then-damaged-end c).After-wrong_field-wrong ∙ c.if-field.false)
    (rw (eq-eqb a.row.offset a.at c.if-offset-at.false, lt-ltb (length a.damaged.now) (a.at + a.row.length) c.if-damaged-end.true)))

pub returns-then-wide : goal.returns-then-wide
returns-then-wide c =
    let a = c.args in
    sym (rule_wide a.damaged.now a.before a.at a.row (field_is (goal.at.returns-then-wide c).After-wrong_field-wrong ∙ c.if-field.false) (placed (goal.at.returns-then-wide c).After-any_over-wide)
    (sym (stretch (goal.at.returns-then-wide c).After-any_over-wide) ∙ c.if-wide.true))

pub returns : goal.returns
returns c =
    let a = c.args in
    sym (rule_none a.damaged.now a.before a.at a.row
    (record { field = field_is (goal.at.returns c).After-wrong_field-wrong ∙ c.if-field.false; placed = placed (goal.at.returns c).After-any_over-wide; range = sym (stretch (goal.at.returns c).After-any_over-wide) ∙ c.if-wide.false }))
