-- The days of years: 365 each, and one more for each leap year, counted by divisions.
use Prim.Native.Nat.{ℕ, zero, suc, ◌+◌, ◌*◌, ◌/◌, ◌%◌}
use mathlib.Core.Bool.{Bool, true, false, cond, not, ◌&&◌, ◌||◌}
use mathlib.Core.Path.{◌≡◌, refl}
use native.Mathlib.Omega.{arith}
use lib.Dec.{eqb}
use borrow.Author.Tests.{eqb-true, eqb-false}
use Rattle.run_calendar.specs.Days.{days_of_year, year_days}

-- the leap years among the first so many from 2000 on
abbrev more : ℕ → ℕ
more years = (years + 3) / 4 + (years + 399) / 400

abbrev less : ℕ → ℕ
less years = (years + 99) / 100

-- what one year more does to each of the three
fourth_more : (y : ℕ) → (2000 + y) % 4 ≡ 0 → (suc y + 3) / 4 ≡ suc ((y + 3) / 4)
fourth_more y p = omega arith

fourth_same : (y : ℕ) → ((2000 + y) % 4 ≡ 0 → ⊥) → (suc y + 3) / 4 ≡ (y + 3) / 4
fourth_same y p = omega arith

hundredth_more : (y : ℕ) → (2000 + y) % 100 ≡ 0 → (suc y + 99) / 100 ≡ suc ((y + 99) / 100)
hundredth_more y p = omega arith

hundredth_same : (y : ℕ) → ((2000 + y) % 100 ≡ 0 → ⊥) → (suc y + 99) / 100 ≡ (y + 99) / 100
hundredth_same y p = omega arith

full_more : (y : ℕ) → (2000 + y) % 400 ≡ 0 → (suc y + 399) / 400 ≡ suc ((y + 399) / 400)
full_more y p = omega arith

full_same : (y : ℕ) → ((2000 + y) % 400 ≡ 0 → ⊥) → (suc y + 399) / 400 ≡ (y + 399) / 400
full_same y p = omega arith

-- what is no fourth year is no full hundred, and what is no full hundred is no fourth one of them
no_hundredth : (y : ℕ) → ((2000 + y) % 4 ≡ 0 → ⊥) → (2000 + y) % 100 ≡ 0 → ⊥
no_hundredth y p q = omega arith

no_full : (y : ℕ) → ((2000 + y) % 100 ≡ 0 → ⊥) → (2000 + y) % 400 ≡ 0 → ⊥
no_full y p q = omega arith

one_year : (y : ℕ) (fourth hundredth full : Bool)
    → eqb ((2000 + y) % 4) 0 ≡ fourth → eqb ((2000 + y) % 100) 0 ≡ hundredth → eqb ((2000 + y) % 400) 0 ≡ full
    → more (suc y) + less y + 365 ≡ more y + less (suc y) + cond (fourth && (not hundredth || full)) 366 365
one_year y true true true a b c =
    rw (
      fourth_more y (eqb-true ((2000 + y) % 4) 0 a),
      hundredth_more y (eqb-true ((2000 + y) % 100) 0 b),
      full_more y (eqb-true ((2000 + y) % 400) 0 c),
    )
    (all ((y + 3) / 4) ((y + 399) / 400) ((y + 99) / 100))
  where
    all : (f u h : ℕ) → suc f + suc u + h + 365 ≡ f + u + suc h + 366
    all f u h = omega arith
one_year y true true false a b c =
    rw (
      fourth_more y (eqb-true ((2000 + y) % 4) 0 a),
      hundredth_more y (eqb-true ((2000 + y) % 100) 0 b),
      full_same y (eqb-false ((2000 + y) % 400) 0 c),
    )
    (all ((y + 3) / 4) ((y + 399) / 400) ((y + 99) / 100))
  where
    all : (f u h : ℕ) → suc f + u + h + 365 ≡ f + u + suc h + 365
    all f u h = omega arith
one_year y true false full a b c =
    let no = eqb-false ((2000 + y) % 100) 0 b in
    rw (fourth_more y (eqb-true ((2000 + y) % 4) 0 a), hundredth_same y no, full_same y (no_full y no))
    (all ((y + 3) / 4) ((y + 399) / 400) ((y + 99) / 100))
  where
    all : (f u h : ℕ) → suc f + u + h + 365 ≡ f + u + h + 366
    all f u h = omega arith
one_year y false hundredth full a b c =
    let no = eqb-false ((2000 + y) % 4) 0 a in
    let none = no_hundredth y no in
    rw (fourth_same y no, hundredth_same y none, full_same y (no_full y none))

pub years_counted : (years : ℕ) → year_days years + less years ≡ 365 * years + more years
unfolding year_days
years_counted zero = refl
years_counted (suc y) =
    let before : year_days y + less y ≡ 365 * y + more y = years_counted y in
    let one = one_year y (eqb ((2000 + y) % 4) 0) (eqb ((2000 + y) % 100) 0) (eqb ((2000 + y) % 400) 0) refl refl refl in
    let d : ℕ = days_of_year (2000 + y) in
    let same : more (suc y) + less y + 365 ≡ more y + less (suc y) + d = one in
    omega arith
