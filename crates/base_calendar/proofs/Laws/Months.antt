-- A month has at most 31 days.
use Prim.Native.Nat.{ℕ, ◌≤◌}
use mathlib.Core.Bool.{cond}
use lib.Dec.{eqb, lit≤}
use Rattle.base_calendar.specs.Months.{days_in, february, leap, short_month}
use Rattle.base_rules.proofs.Laws.TestLaws.{picked}

pub days_below : (y month : ℕ) → days_in y month ≤ 31
days_below y month =
    picked (λ (n : ℕ). n ≤ 31) (eqb month 2) (february y) (cond (short_month month) 30 31)
    (picked (λ (n : ℕ). n ≤ 31) (leap y) 29 28 (lit≤ tt) (lit≤ tt))
    (picked (λ (n : ℕ). n ≤ 31) (short_month month) 30 31 (lit≤ tt) (lit≤ tt))
