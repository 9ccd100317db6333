-- Laws of the straight line between two whole degrees, of a rise from one resistance to the next, and of how far an answer is from the rule.
use Prim.Native.Nat.{ℕ, zero, suc, ◌+◌, ◌-◌, ◌*◌, ◌/◌, ◌%◌, ◌<◌, ◌≤◌}
use mathlib.Core.Bool.{Bool}
use mathlib.Core.Logic.{⊎_elim}
use mathlib.Core.Path.{◌≡◌, refl, sym, ap, ◌∙◌}
use native.Mathlib.Nat.{mul-le-mul_right, mul-add, add-mul, mul_comm, div-mul-le_self, lt-div-mul-add}
use native.Mathlib.Nat.{lt_trans, le_refl, le_of_lt, eq-or-lt_of_le, le_of_suc-le-suc}
use native.Mathlib.Decide.{dec_lt}
use native.Mathlib.Omega.{arith}
use borrow.Author.Tests.{ltb-true}
use lib.Dec.{ltb}
use Rattle.base_rules.proofs.Laws.Tests.{below}
use Rattle.base_numbers.specs.Rounding.{apart}
use Rattle.bench_resistance.specs.Resistances.{exact, parts_of_one, stored_for, line, resistance, hundredths_most}

-- so many hundredths on from a whole degree, the next whole degree included
pub resistance_line : (degree rest : ℕ) → rest ≤ 100 → resistance (100 * degree + rest) ≡ line (stored_for degree) (stored_for (degree + 1)) rest
unfolding resistance
resistance_line degree rest h = go (dec_lt rest 100)
  where
    go : Dec (rest < 100) → resistance (100 * degree + rest) ≡ line (stored_for degree) (stored_for (degree + 1)) rest
    go (yes l) =
        let d : (100 * degree + rest) / 100 ≡ degree = omega arith in
        let r : (100 * degree + rest) % 100 ≡ rest = omega arith in
        rw (d, r)
    go (no l) =
        let d : (100 * degree + rest) / 100 ≡ degree + 1 = omega arith in
        let r : (100 * degree + rest) % 100 ≡ 0 = omega arith in
        let e : rest ≡ 100 = omega arith in
        rw (d, r, e) (omega arith)

-- what one division gives is the last hundredth of a line that is not above a resistance
module _ (low high milliohm : ℕ) (l : low ≤ milliohm) (h : milliohm < high) where
  abbrev rest : ℕ
  rest = (100 * (milliohm - low) + 49) / (high - low)

  along : (r : ℕ) → r ≤ 100 → low * (100 - r) + high * r ≡ 100 * low + r * (high - low)
  along r n =
      let whole : low * (100 - r) + low * r ≡ low * 100 = sym (mul-add low (100 - r) r) ∙ ap (λ (k : ℕ). low * k) (omega arith) in
      let rise : high * r ≡ low * r + (high - low) * r = ap (λ (k : ℕ). k * r) (omega arith) ∙ add-mul low (high - low) r in
      omega (arith, mul_comm (high - low) r)

  within : (rest * (high - low) ≤ 100 * (milliohm - low) + 49) × (100 * (milliohm - low) + 49 < rest * (high - low) + (high - low))
  within = (div-mul-le_self (100 * (milliohm - low) + 49) (high - low), lt-div-mul-add (omega arith))

  pub rest_below : rest < 100
  rest_below = go (dec_lt rest 100)
    where
      go : Dec (rest < 100) → rest < 100
      go (yes b) = b
      go (no b) =
          let most : 100 * (high - low) ≤ rest * (high - low) = mul-le-mul_right (high - low) (omega arith) in
          omega (arith, within)

  pub rest_not_above : line low high rest ≤ milliohm
  rest_not_above = omega (arith, within, along rest (omega (arith, rest_below)))

  pub rest_last : milliohm < line low high (rest + 1)
  rest_last = omega (arith, within, along (rest + 1) (omega (arith, rest_below)), add-mul rest 1 (high - low))

-- every answer is less than 2 milliohm from the exact value
abbrev near : ℕ → Bool
near h = ltb (apart (exact h) (resistance h * parts_of_one)) (2 * parts_of_one)

pub resistance_near : (h : ℕ) → h ≤ hundredths_most → apart (exact h) (resistance h * parts_of_one) < 2 * parts_of_one
unfolding stored_for resistance
resistance_near h l = ltb-true (apart (exact h) (resistance h * parts_of_one)) (2 * parts_of_one) (below 20001 near refl h (omega arith))

-- the answers rise strictly
abbrev rise : ℕ → Bool
rise h = ltb (resistance h) (resistance (suc h))

pub resistance_next : (h : ℕ) → h < hundredths_most → resistance h < resistance (suc h)
unfolding stored_for resistance
resistance_next h l = ltb-true (resistance h) (resistance (suc h)) (below hundredths_most rise refl h l)

pub resistance_rises : (h k : ℕ) → h < k → k ≤ hundredths_most → resistance h < resistance k
resistance_rises h zero l m = absurd (omega arith)
resistance_rises h (suc k) l m =
    ⊎_elim (λ e. rw e (resistance_next k (omega arith))) (λ n. lt_trans (resistance_rises h k n (omega arith)) (resistance_next k (omega arith)))
    (eq-or-lt_of_le (le_of_suc-le-suc l))

pub resistance_climbs : (h k : ℕ) → h ≤ k → k ≤ hundredths_most → resistance h ≤ resistance k
resistance_climbs h k l m = ⊎_elim (λ e. rw e (le_refl (resistance k))) (λ n. le_of_lt (resistance_rises h k n m)) (eq-or-lt_of_le l)
