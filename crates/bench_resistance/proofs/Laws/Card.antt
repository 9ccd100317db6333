-- Laws of the rule and of the card: each entry is the rule rounded to nearest, halves up; and the search for a degree.
use Prim.Native.Nat.{ℕ, zero, suc, ◌+◌, ◌-◌, ◌*◌, ◌^◌, ◌<◌, ◌≤◌}
use mathlib.Core.Bool.{Bool, true, false}
use mathlib.Core.List.{List}
use mathlib.Core.Path.{◌≡◌, refl, ap, ◌∙◌}
use native.Mathlib.Nat.{zero-add, mul-le-mul_left, le_refl, le_trans, eq-or-lt_of_le, le_of_suc-le-suc}
use mathlib.Core.Logic.{⊎_elim}
use Rattle.std.specs.List.Sorted.{IsNonDecreasing, IsPartitionPoint}
use native.Mathlib.Omega.{arith}
use borrow.Author.Tests.{ltb-true, leb-true, leb-false}
use lib.Dec.{ltb, leb}
use lib.ListN.{get_or, length}
use Rattle.base_rules.proofs.Laws.Tests.{below}
use Rattle.base_numbers.specs.Rounding.{NearestUp}
use Rattle.base_numbers.proofs.Laws.Rounding.{nearest_up}
use Rattle.bench_resistance.specs.Resistances.{hundredths_most, exact, parts_of_one, stored_for, stored_from, card}

-- the rule's difference does not go below 0
pub exact_whole : (h : ℕ) → h ≤ hundredths_most → exact h + 5775 * (h * h) ≡ 10 ^ 14 + 39083 * 10 ^ 5 * h
exact_whole h l = omega (arith, mul-le-mul_left h l)

stored_at : (degree count k d : ℕ) → k < count → get_or (stored_from degree count) k d ≡ stored_for (degree + k)
unfolding stored_from
stored_at degree zero k d h = absurd (omega arith)
stored_at degree (suc count) zero d h = ap stored_for (omega arith)
stored_at degree (suc count) (suc k) d h = stored_at (suc degree) count k d (omega arith) ∙ ap stored_for (omega arith)

pub card_at : (k : ℕ) → k < 201 → get_or card k 0 ≡ stored_for k
card_at k h = stored_at 0 201 k 0 h ∙ ap stored_for (zero-add k)

read_at : {degrees : List ℕ} → degrees ≡ card → (k d : ℕ) → k < 201 → get_or degrees k d ≡ stored_for k
read_at e k d h = ap (λ (s : List ℕ). get_or s k d) e ∙ stored_at 0 201 k d h ∙ ap stored_for (zero-add k)

pub card_read : {degrees : List ℕ} → degrees ≡ card → (k : ℕ) → k < 201 → get_or degrees k 0 ≡ stored_for k
card_read e k h = read_at e k 0 h

card_length : length card ≡ 201
unfolding stored_from
card_length = refl

-- no whole number is nearer to the rule than the entry, and of two as near it is the higher
pub stored_nearest : (degree : ℕ) → NearestUp (exact (100 * degree)) parts_of_one (stored_for degree)
unfolding stored_for
stored_nearest degree = nearest_up (exact (100 * degree)) parts_of_one (omega arith)

-- so small that nothing that is computed with them passes 32 bits
abbrev small : ℕ → Bool
small k = ltb (stored_for k) 2000000

pub stored_small : (k : ℕ) → k < 202 → stored_for k < 2000000
unfolding stored_for
stored_small k h = ltb-true (stored_for k) 2000000 (below 202 small refl k h)

pub card_small : {degrees : List ℕ} → degrees ≡ card → (k : ℕ) → k < 201 → get_or degrees k 0 < 2000000
card_small e k h = rw (card_read e k h) (stored_small k (omega arith))

-- the card's resistances rise
abbrev rising : ℕ → Bool
rising k = leb (stored_for k) (stored_for (suc k))

stored_next : (k : ℕ) → k < 200 → stored_for k ≤ stored_for (suc k)
unfolding stored_for
stored_next k h = leb-true (stored_for k) (stored_for (suc k)) (below 200 rising refl k h)

stored_climbs : (i j : ℕ) → i ≤ j → j < 201 → stored_for i ≤ stored_for j
stored_climbs i zero l h = let e : i ≡ 0 = omega arith in rw e (le_refl (stored_for 0))
stored_climbs i (suc j) l h =
    ⊎_elim (λ e. rw e (le_refl (stored_for (suc j)))) (λ n. le_trans (stored_climbs i j (le_of_suc-le-suc n) (omega arith)) (stored_next j (omega arith)))
    (eq-or-lt_of_le l)

pub card_climbs : {degrees : List ℕ} → degrees ≡ card → IsNonDecreasing degrees
card_climbs e i j d l h =
    let inside : j < 201 = omega (arith, card_length, ap length e) in
    rw (read_at e i d (omega arith), read_at e j d inside) (stored_climbs i j l inside)

-- The search for a degree: of the entries that are not above a resistance there is one at least, and the last of them is the degree's.
pub degree_last : {degrees : List ℕ} → degrees ≡ card → (milliohm i : ℕ) → stored_for 0 ≤ milliohm → i ≤ length degrees
    → IsPartitionPoint (λ y. leb y milliohm ≡ true) (λ y. leb y milliohm ≡ false) degrees i
    → (1 ≤ i) × ((i - 1 < 201) × (stored_for (i - 1) ≤ milliohm) × (i - 1 < 200 → milliohm < stored_for (i - 1 + 1)))
degree_last {degrees} e milliohm zero first most p =
    let none = leb-false (get_or degrees 0 0) milliohm (p.1 0 0 (omega arith) (omega (arith, card_length, ap length e))) in
    absurd (omega (arith, none, first, card_read e 0 (omega arith)))
degree_last {degrees} e milliohm (suc n) first most p =
    let inside : n < 201 = omega (arith, card_length, ap length e) in
    let last = leb-true (get_or degrees n 0) milliohm (p.0 n 0 (omega arith) (omega arith)) in
    let same : suc n - 1 ≡ n = omega arith in
    let next : 201 ≤ length degrees = omega (arith, card_length, ap length e) in
    rw same (
      omega arith,
      (
        inside,
        rw (card_read e n inside) at last,
        λ m. rw (← card_read e (n + 1) (omega arith)) (leb-false (get_or degrees (n + 1) 0) milliohm (p.1 (n + 1) 0 (omega arith) (omega arith))),
      ),
    )

-- what the division in the degree that was found asks
pub degree_found : {degrees : List ℕ} → degrees ≡ card → (milliohm degree : ℕ) → degree < 200
    → stored_for degree ≤ milliohm → milliohm < stored_for (degree + 1)
    → (get_or degrees degree 0 ≤ milliohm) × (milliohm < get_or degrees (degree + 1) 0) × (get_or degrees (degree + 1) 0 < 2000000)
degree_found e milliohm degree d low high =
    (rw (card_read e degree (omega arith)) low, rw (card_read e (degree + 1) (omega arith)) high, card_small e (degree + 1) (omega arith))
