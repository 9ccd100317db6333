-- Range and parity of characters in one number.
use Rattle.std.proofs.Common.{◌≡◌, ℕ, zero, suc, ◌+◌, ◌*◌, ◌/◌, ◌%◌, ◌^◌, ◌<◌, ◌≤◌, Bool, true, false, ◌||◌, eqb, ltb, List, [], ◌∷◌, ◌++◌, length, take, sym, refl, ap, ◌∙◌, ap₂, add-zero, mod-eq_of_lt, mul_comm, add-one, arith, take_all, take-suc, ltb-false, ltb-true, le-ltb, lt-ltb, eq-eqb, ne_eqb}
use native.Mathlib.Nat.{div-div-eq-div-mul}
use lib.Bits.{bit_xor, bit_or, xor_shr, or_add_and, and_le_l, and_le_r, or_lt, or_mod}
use lib.Count.{ones_in}
use Rattle.base_rules.specs.Lists.{at, any}
use Rattle.base_characters.specs.Characters.{over, odd}
use Rattle.base_rules.specs.Shown.{shown}
use Rattle.base_rules.proofs.Laws.ListLaws.{any_append}
use Rattle.base_characters.proofs.Laws.Folding.{fold, folded_odd}
use Rattle.base_rules.proofs.Laws.Tests.{by_test, below, neither}
use Rattle.base_characters.specs.Gathering.{Flagged, sound, sound_by}

-- ---- one character

-- a character folded onto its lowest bit, as the code folds it
abbrev pub flag : ℕ → ℕ
flag c = fold 2 (fold 4 (fold 16 (fold 256 c)))

-- what is folded, less its nine low bits, is what is folded of the rest
folded_high : (x k : ℕ) → fold (2 ^ k) x / 2 ^ 9 ≡ fold (2 ^ k) (x / 2 ^ 9)
folded_high x k =
    xor_shr x (x / 2 ^ k) 9
    ∙ ap (bit_xor (x / 2 ^ 9))
    (div-div-eq-div-mul x (2 ^ k) (2 ^ 9) ∙ ap (λ (m : ℕ). x / m) (mul_comm (2 ^ k) (2 ^ 9)) ∙ sym (div-div-eq-div-mul x (2 ^ 9) (2 ^ k)))

flag_high : (c : ℕ) → flag c / 512 ≡ flag (c / 512)
flag_high c =
    folded_high (fold 4 (fold 16 (fold 256 c))) 1
    ∙ ap (fold 2) (folded_high (fold 16 (fold 256 c)) 2 ∙ ap (fold 4) (folded_high (fold 256 c) 4 ∙ ap (fold 16) (folded_high c 8)))

-- of the seven bits above the nine one stays
flag_kept : (y : ℕ) → y < 128 → ltb 0 (flag y) ≡ ltb 0 y
flag_kept y h =
    by_test (ltb 0 y) (λ e. kept e ∙ sym e) (λ e. let none : y ≡ 0 = omega (arith, ltb-false 0 y e) in rw none)
  where
    kept : ltb 0 y ≡ true → ltb 0 (flag y) ≡ true
    kept e = rw (ne_eqb y 0 (λ z. omega (arith, ltb-true 0 y e))) at (below 128 (λ (x : ℕ). eqb x 0 || ltb 0 (flag x)) refl y h)

high : (x : ℕ) → ltb 511 x ≡ ltb 0 (x / 512)
high x = by_test (ltb 0 (x / 512)) (λ e. lt-ltb 511 x (omega (arith, ltb-true 0 (x / 512) e)) ∙ sym e)
    (λ e. le-ltb 511 x (omega (arith, ltb-false 0 (x / 512) e)) ∙ sym e)

one_or_none : (b : Bool) → (b || false) ≡ b
one_or_none true = refl
one_or_none false = refl

pub flagged_one : (c : ℕ) → c < 65536 → Flagged (c ∷ []) (flag c)
unfolding any
flagged_one c h = record {
  range = high (flag c) ∙ ap (ltb 0) (flag_high c) ∙ flag_kept (c / 512) (omega arith) ∙ sym (high c) ∙ sym (one_or_none (over c));
  parity = λ e.
      let low : c < 512 = omega (arith, ltb-false 511 c (neither (over c) false e).0) in
      ap (λ (n : ℕ). eqb (flag n % 2) 1) (sym (mod-eq_of_lt low)) ∙ folded_odd c ∙ sym (one_or_none (odd c));
}

-- and by a count of its bits: what is over 511 stays, and the lowest bit is the parity
module _ (c : ℕ) where
  count_range : {low : ℕ} → low < 2 → ltb 511 (c / 512 * 512 + low) ≡ (over c || false)
  count_range {low} h = by_test (over c) (λ e. rw e (lt-ltb 511 (c / 512 * 512 + low) (omega (arith, ltb-true 511 c e))))
      (λ e. rw e (le-ltb 511 (c / 512 * 512 + low) (omega (arith, ltb-false 511 c e))))

  small : (over c || false) ≡ false → c < 512
  small e = omega (arith, ltb-false 511 c (neither (over c) false e).0)

  pub flagged_odd : odd c ≡ true → Flagged (c ∷ []) (c / 512 * 512 + 1)
  unfolding any
  flagged_odd t = record {
    range = count_range (omega arith);
    parity = λ e.
        let one : (c / 512 * 512 + 1) % 2 ≡ 1 = omega arith in
        eq-eqb ((c / 512 * 512 + 1) % 2) 1 one ∙ sym t ∙ sym (one_or_none (odd c));
  }

  pub flagged_even : odd c ≡ false → Flagged (c ∷ []) (c / 512 * 512)
  unfolding any
  flagged_even t = record {
    range = rw (sym (add-zero (c / 512 * 512))) (count_range (omega arith));
    parity = λ e.
        let none : (c / 512 * 512) % 2 ≡ 0 = omega arith in
        ne_eqb ((c / 512 * 512) % 2) 1 (omega arith) ∙ sym t ∙ sym (one_or_none (odd c));
  }

-- ---- one more character

or_range : (a b : ℕ) → ltb 511 (bit_or a b) ≡ (ltb 511 a || ltb 511 b)
or_range a b =
    by_test (ltb 511 a) (λ e. rw e (lt-ltb 511 (bit_or a b) (omega (arith, ltb-true 511 a e, or_add_and a b, and_le_r a b))))
    (λ e. by_test (ltb 511 b) (λ f. rw (e, f) (lt-ltb 511 (bit_or a b) (omega (arith, ltb-true 511 b f, or_add_and a b, and_le_l a b))))
    (λ f. rw (e, f) (le-ltb 511 (bit_or a b) (omega (arith, or_lt 9 a b (omega (arith, ltb-false 511 a e)) (omega (arith, ltb-false 511 b f)))))))

or_bit : (p q : ℕ) → p < 2 → q < 2 → eqb (bit_or p q) 1 ≡ (eqb p 1 || eqb q 1)
or_bit zero zero g h = refl
or_bit zero (suc zero) g h = refl
or_bit (suc zero) zero g h = refl
or_bit (suc zero) (suc zero) g h = refl
or_bit (suc (suc p)) q g h = absurd (omega arith)
or_bit zero (suc (suc q)) g h = absurd (omega arith)
or_bit (suc zero) (suc (suc q)) g h = absurd (omega arith)

or_parity : (a b : ℕ) → eqb (bit_or a b % 2) 1 ≡ (eqb (a % 2) 1 || eqb (b % 2) 1)
or_parity a b = ap (λ (n : ℕ). eqb n 1) (or_mod a b 1) ∙ or_bit (a % 2) (b % 2) (omega arith) (omega arith)

pub flagged_none : Flagged [] 0
unfolding any
flagged_none = record { range = refl; parity = λ e. refl }

pub flagged_append : {s t : List ℕ} {f g : ℕ} → Flagged s f → Flagged t g → Flagged (s ++ t) (bit_or f g)
flagged_append {s} {t} {f} {g} p q = record {
  range = or_range f g ∙ ap₂ ◌||◌ p.range q.range ∙ sym (any_append over s t);
  parity = λ e.
      let none = neither (any over s) (any over t) (sym (any_append over s t) ∙ e) in
      or_parity f g ∙ ap₂ ◌||◌ (p.parity none.0) (q.parity none.1) ∙ sym (any_append odd s t);
}

-- a character 0 adds nothing
pub flagged_idle : {s : List ℕ} {f g : ℕ} → Flagged s f → Flagged (0 ∷ []) g → Flagged s (bit_or f g)
unfolding any odd ones_in
flagged_idle {s} {f} {g} p q = record {
  range = or_range f g ∙ ap₂ ◌||◌ p.range q.range ∙ one_or_none (any over s);
  parity = λ e. or_parity f g ∙ ap₂ ◌||◌ (p.parity e) (q.parity refl) ∙ one_or_none (any odd s);
}

pub flagged_next : (s : List ℕ) {i f g : ℕ} → Flagged (take i s) f → i < length s → {c : ℕ} → c ≡ at s i → Flagged (c ∷ []) g
    → Flagged (take (i + 1) s) (bit_or f g)
flagged_next s {i} p h e q = rw (add-one, take-suc s i 0 h, ← e) (flagged_append p q)

-- What is flagged is told as the rules 2 and 3 say.
pub flagged_told : {s : List ℕ} {flags : ℕ} → Flagged s flags → shown (sound_by flags) ≡ shown (sound s)
flagged_told {s} {flags} p =
    by_test (any over s) (λ e. rw (p.range, e)) (λ e. rw (p.range, e, p.parity e))

pub flagged_all : (s : List ℕ) (i : ℕ) {flags : ℕ} → Flagged (take i s) flags → length s ≤ i → shown (sound_by flags) ≡ shown (sound s)
flagged_all s i p h = flagged_told (rw (take_all i s h) at p)
