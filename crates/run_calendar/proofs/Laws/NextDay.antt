-- The count of days against the calendar: the next day is one more.
use Prim.Native.Nat.{ℕ, zero, suc, ◌+◌, ◌-◌, ◌≤◌}
use mathlib.Core.Bool.{Bool, true, false, cond}
use mathlib.Core.Path.{◌≡◌, refl}
use native.Mathlib.Numerals.{add-one}
use native.Mathlib.Omega.{arith}
use lib.Dec.{eqb, lit≤}
use Rattle.base_calendar.specs.Months.{leap, february, short_month, days_in}
use Rattle.base_rules.proofs.Laws.TestLaws.{picked}
use Rattle.run_calendar.specs.Days.{days_of_year, year_days, month_days, days_before}

-- inside a month
pub next_in_month : (year month day : ℕ) → 1 ≤ day → days_before year month (day + 1) ≡ days_before year month day + 1
next_in_month year month day h = omega arith

-- from a month's last day to the first of the next
some_days : (y month : ℕ) → 1 ≤ days_in y month
some_days y month =
    picked (λ (n : ℕ). 1 ≤ n) (eqb month 2) (february y) (cond (short_month month) 30 31)
    (picked (λ (n : ℕ). 1 ≤ n) (leap y) 29 28 (lit≤ tt) (lit≤ tt))
    (picked (λ (n : ℕ). 1 ≤ n) (short_month month) 30 31 (lit≤ tt) (lit≤ tt))

month_more : (a b d : ℕ) → 1 ≤ d → a + (b + d) + 0 ≡ a + b + (d - 1) + 1
month_more a b d h = omega arith

pub next_month : (year month : ℕ) → 1 ≤ month → days_before year (month + 1) 1 ≡ days_before year month (days_in (2000 + year) month) + 1
unfolding month_days
next_month year zero h = let never : ⊥ = omega arith in absurd never
next_month year (suc month) h =
    let one : suc month + 1 - 1 ≡ suc month = omega arith in
    let two : suc month - 1 ≡ month = omega arith in
    rw (one, two)
    (month_more (year_days year) (month_days (2000 + year) month) (days_in (2000 + year) (suc month)) (some_days (2000 + year) (suc month)))

-- from the last of December to the first of January
eleven_months : (y : ℕ) → month_days y 11 + 31 ≡ days_of_year y
unfolding month_days
eleven_months y = go (leap y)
  where
    go : (t : Bool) → 31 + cond t 29 28 + 31 + 30 + 31 + 30 + 31 + 31 + 30 + 31 + 30 + 31 ≡ cond t 366 365
    go true = refl
    go false = refl

no_months : (y : ℕ) → month_days y 0 ≡ 0
unfolding month_days
no_months y = refl

year_more : (a m d : ℕ) → m + 31 ≡ d → a + d + 0 + 0 ≡ a + m + 30 + 1
year_more a m d e = omega arith

pub next_year : (year : ℕ) → days_before (year + 1) 1 1 ≡ days_before year 12 31 + 1
unfolding year_days
next_year year =
    rw (add-one, no_months (2000 + suc year))
    (year_more (year_days year) (month_days (2000 + year) 11) (days_of_year (2000 + year)) (eleven_months (2000 + year)))

-- the first day of all
pub first_day : days_before 0 1 1 ≡ 0
unfolding year_days month_days
first_day = refl
