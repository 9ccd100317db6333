-- `run_calendar::month_days` meets its contract: the loop adds the days of one month after the other.
use Prim.Native.Nat.{ℕ, ◌+◌}
use mathlib.Core.Path.{◌≡◌, refl, ap, ap₂, ◌∙◌}
use native.Mathlib.Numerals.{add-one}
use native.Mathlib.Omega.{arith}
use borrow.Author.Rules.{rules}
use Rattle.base_calendar.specs.Months.{days_in}
use Rattle.run_calendar.specs.Days.{month_days}
use Rattle.run_calendar.proofs.month_days.Goals as goal

pub loop-month-init : goal.loop-month-init
unfolding month_days
loop-month-init c = (search rules, refl, search rules)

pub loop-month-preserved : goal.loop-month-preserved
unfolding month_days
loop-month-preserved c =
    let y : ℕ = 2000 + c.args.year in
    let month = c.loop-month.month in
    let sum = ap₂ (λ (x z : ℕ). x + z) c.loop-month.invariant.1 (c.days_in.ensures ∙ ap (days_in y) (add-one month)) in
    (search rules, rw add-one sum, search rules)

pub returns : goal.returns
returns c =
    let all : c.loop-month.month ≡ c.args.months = omega arith in
    (c.loop-month.invariant.1 ∙ ap (month_days (2000 + c.args.year)) all, search rules)
