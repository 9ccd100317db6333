-- `mbus_entries::entry::try_digits` meets its contract: the width and the quantity, then the digits.
use native.Mathlib.Omega.{arith}
use Rattle.std.proofs.Common.{rules}
use borrow.Author.Tests.{le-leb, lt-leb}
use mathlib.Core.Path.{sym, ◌∙◌}
use Rattle.base_rules.proofs.Laws.ByteLaws.{bytes_each}
use Rattle.mbus_entries.proofs.Laws.TryLaws.{wide_none, wide_time, wide_refused, wide_taken}
use Rattle.mbus_entries.proofs.entry.try_digits.Goals as goal

pub returns-in_default : goal.returns-in_default
returns-in_default c =
    wide_none c.requires.0 c.requires.1 (λ x e. c.in_default.not-Some x (c.digits_at.ensures ∙ e))

pub returns-then-quantity-ge-TIME : goal.returns-then-quantity-ge-TIME
returns-then-quantity-ge-TIME c = wide_time c.requires.0 c.requires.1 (le-leb _ _ c.if-quantity-ge-TIME.true)

pub returns-in_err-value : goal.returns-in_err-value
returns-in_err-value c =
    let e = wide_refused c.requires.0 c.requires.1 (sym c.in-Some.is ∙ c.digits_at.ensures) (lt-leb _ _ c.if-quantity-ge-TIME.false)
    (bytes_each c.args.rest.now (λ i. omega (arith, c.type_inv.rest i))) c.signed_in-number.ensures c.digits_value.ensures c.in_err-value.was in
    search rules

pub returns : goal.returns
returns c =
    rw c.taken_with.ensures
    (wide_taken c.requires.0 c.requires.1 (sym c.in-Some.is ∙ c.digits_at.ensures) (lt-leb _ _ c.if-quantity-ge-TIME.false)
    (bytes_each c.args.rest.now (λ i. omega (arith, c.type_inv.rest i))) c.signed_in-number.ensures c.digits_value.ensures c.in_ok-value.was)
