-- Laws of an energy value turned into an entry.
use Prim.Native.Nat.{ℕ, ◌*◌, ◌/◌, ◌%◌, ◌^◌, ◌≤◌}
use mathlib.Core.Bool.{Bool, true, false, cond, not, ◌&&◌, ◌||◌}
use mathlib.Core.Path.{◌≡◌, refl, sym, subst}
use native.Mathlib.Omega.{arith}
use borrow.Author.Tests.{eqb-true, eqb-false, eq-eqb, ne_eqb}
use lib.Dec.{eqb}
use Rattle.base_rules.proofs.Laws.Tests.{by_test}
use Rattle.cjt_rules.specs.CjtUnits.{watt_hours, joules, energy_code}
use Rattle.cjt_energy.specs.Energies.{code_power, unit_for, code_digit, entry_digit}

either_way : {X : Type 0} (a b : Bool) → (a ≡ true → X) → (b ≡ true → X) → (a || b) ≡ true → X
either_way true b f g e = f refl
either_way false b f g e = g e

-- what holds of each of the nine codes
pub by_code : (P : ℕ → Type 0) → P 0x01 → P 0x02 → P 0x05 → P 0x08 → P 0x0A → P 0x0B → P 0x0E → P 0x11 → P 0x13
    → (code : ℕ) → energy_code code ≡ true → P code
by_code P p1 p2 p5 p8 pA pB pE p11 p13 code h =
    either_way (watt_hours code) (joules code)
    (either_way (eqb code 0x02 || eqb code 0x05 || eqb code 0x08) (eqb code 0x0A)
    (either_way (eqb code 0x02 || eqb code 0x05) (eqb code 0x08)
    (either_way (eqb code 0x02) (eqb code 0x05) (one 0x02 p2) (one 0x05 p5))
    (one 0x08 p8))
    (one 0x0A pA))
    (either_way (eqb code 0x01 || eqb code 0x0B || eqb code 0x0E || eqb code 0x11) (eqb code 0x13)
    (either_way (eqb code 0x01 || eqb code 0x0B || eqb code 0x0E) (eqb code 0x11)
    (either_way (eqb code 0x01 || eqb code 0x0B) (eqb code 0x0E)
    (either_way (eqb code 0x01) (eqb code 0x0B) (one 0x01 p1) (one 0x0B pB))
    (one 0x0E pE))
    (one 0x11 p11))
    (one 0x13 p13))
    h
  where
    one : (k : ℕ) → P k → eqb code k ≡ true → P code
    one k p e = subst P (sym (eqb-true code k e)) p

-- the count as it is found: two digits are taken away from joules, and two are added where the power is over that of the highest unit byte
pub count_found : (count code : ℕ) → energy_code code ≡ true
    → cond (eqb code 0x01) (count / 100) (cond (eqb code 0x0A || eqb code 0x13) (100 * count) count)
    ≡ count * code_digit code / entry_digit (unit_for code)
unfolding code_power unit_for
count_found count code =
    by_code
    (λ (k : ℕ). cond (eqb k 0x01) (count / 100) (cond (eqb k 0x0A || eqb k 0x13) (100 * count) count) ≡ count * code_digit k / entry_digit (unit_for k))
    (omega arith) (omega arith) (omega arith) (omega arith) (omega arith) (omega arith) (omega arith) (omega arith) (omega arith) code

-- so it is at most a hundred times as large
pub count_small : (count code : ℕ) → energy_code code ≡ true → count * code_digit code / entry_digit (unit_for code) ≤ 100 * count
unfolding code_power unit_for
count_small count code =
    by_code (λ (k : ℕ). count * code_digit k / entry_digit (unit_for k) ≤ 100 * count)
    (omega arith) (omega arith) (omega arith) (omega arith) (omega arith) (omega arith) (omega arith) (omega arith) (omega arith) code

rest_none : (a : ℕ) → a ≡ 0 → false ≡ not (eqb a 0)
rest_none a e = rw (eq-eqb a 0 e)

rest_joules : (count : ℕ) → not (eqb (count % 100) 0) ≡ not (eqb (count * 10 % 1000) 0)
rest_joules count =
    let ten : count * 10 % 1000 ≡ count % 100 * 10 = omega arith in
    by_test (eqb (count % 100) 0)
    (λ e. rw (e, eq-eqb (count * 10 % 1000) 0 (omega (arith, eqb-true (count % 100) 0 e))))
    (λ e. rw (e, ne_eqb (count * 10 % 1000) 0 (λ z. eqb-false (count % 100) 0 e (omega arith))))

-- 86: something is left only of joules
pub rest_found : (count code : ℕ) → energy_code code ≡ true
    → (eqb code 0x01 && not (eqb (count % 100) 0)) ≡ not (eqb (count * code_digit code % entry_digit (unit_for code)) 0)
unfolding code_power unit_for
rest_found count code =
    by_code (λ (k : ℕ). (eqb k 0x01 && not (eqb (count % 100) 0)) ≡ not (eqb (count * code_digit k % entry_digit (unit_for k)) 0))
    (rest_joules count)
    (rest_none (count * 10 % 10) (omega arith))
    (rest_none (count * 10 ^ 4 % 10 ^ 4) (omega arith))
    (rest_none (count * 10 ^ 7 % 10 ^ 7) (omega arith))
    (rest_none (count * 10 ^ 9 % 10 ^ 7) (omega arith))
    (rest_none (count * 10 ^ 4 % 10 ^ 4) (omega arith))
    (rest_none (count * 10 ^ 7 % 10 ^ 7) (omega arith))
    (rest_none (count * 10 ^ 10 % 10 ^ 10) (omega arith))
    (rest_none (count * 10 ^ 12 % 10 ^ 10) (omega arith))
    code

-- the unit byte of the codes that are left
pub unit_highest : (code : ℕ) → energy_code code ≡ true → (code ≡ 0x01 → ⊥) → (code ≡ 0x02 → ⊥) → (code ≡ 0x05 → ⊥) → (code ≡ 0x08 → ⊥)
    → (code ≡ 0x0A → ⊥) → (code ≡ 0x0B → ⊥) → (code ≡ 0x0E → ⊥) → 0x0F ≡ unit_for code
unfolding code_power unit_for
unit_highest code known n1 n2 n5 n8 nA nB nE =
    by_code (λ (k : ℕ). code ≡ k → 0x0F ≡ unit_for k)
    (λ e. absurd (n1 e)) (λ e. absurd (n2 e)) (λ e. absurd (n5 e)) (λ e. absurd (n8 e)) (λ e. absurd (nA e)) (λ e. absurd (nB e)) (λ e. absurd (nE e))
    (λ e. refl) (λ e. refl) code known refl
