-- Two's complement of bytes that were gathered in a word: the word is past half of what they hold, and as far below zero as it is below all.
use Prim.Native.Nat.{ℕ, zero, suc, ◌+◌, ◌-◌, ◌*◌, ◌/◌, ◌^◌, ◌≤◌, ◌<◌, min}
use mathlib.Core.Bool.{true, false, cond, true≢false, false≢true}
use mathlib.Core.List.{List, [], ◌∷◌}
use mathlib.Core.Path.{◌≡◌, refl, sym, ◌∙◌}
use native.Mathlib.Nat.{pow-succ', one-le-pow, pow-le-pow_right}
use native.Mathlib.Omega.{arith}
use borrow.Author.Tests.{ltb-true, ltb-false, leb-true, leb-false, lt-ltb, le-ltb, le-leb, lt-leb}
use lib.Dec.{ltb, leb}
use lib.IntN.{ℤ, pos, negsuc, nat_abs}
use lib.ListN.{length}
use mir.Syntax.{w64}
use mir.Val.{to_z}
use Rattle.base_rules.specs.Bytes.{Bytes}
use Rattle.base_numbers.specs.Numbers.{number}
use Rattle.base_numbers.specs.TwosComplement.{negative, binary_of, fits_binary, below_zero}
use Rattle.base_rules.proofs.Laws.Tests.{by_test}
use Rattle.base_numbers.proofs.Laws.ByteNumbers.{number_below}
use Rattle.base_numbers.proofs.Laws.TwosComplement.{count_above, count_below}
use Rattle.mbus_fields.specs.declared.binary.Coded.{Coded}
use Rattle.mbus_fields.specs.Fields.{coded_of, mark_of}

-- all that so many bytes hold, by the mark of so many
marks : (k : ℕ) → mark_of (suc k) ≡ 240 * 256 ^ k
unfolding mark_of
marks zero = refl
marks (suc k) =
    let r : mark_of (suc k) ≡ 240 * 256 ^ k = marks k in
    let p : 256 ^ suc k ≡ 256 * 256 ^ k = pow-succ' 256 k in
    omega arith

sixteenths : (m p q : ℕ) → m ≡ 240 * q → p ≡ 256 * q → 1 ≤ q → (15 ≤ m) × ((m / 15 - 1) * 16 + 15 ≡ p - 1)
sixteenths m p q e f h = omega arith

pub mark_none : (w : ℕ) → mark_of w < 15 → 0 ≡ 256 ^ w - 1
mark_none zero h = refl
mark_none (suc k) h =
    let s = sixteenths (mark_of (suc k)) (256 ^ suc k) (256 ^ k) (marks k) (pow-succ' 256 k) (one-le-pow k 256 (omega arith)) in
    absurd (omega (arith, s.0))

pub mark_most : (w : ℕ) → 15 ≤ mark_of w → (mark_of w / 15 - 1) * 16 + 15 ≡ 256 ^ w - 1
unfolding mark_of
mark_most zero h = absurd (omega arith)
mark_most (suc k) h = (sixteenths (mark_of (suc k)) (256 ^ suc k) (256 ^ k) (marks k) (pow-succ' 256 k) (one-le-pow k 256 (omega arith))).1

-- eight bytes are a word
pub word_wide : (w : ℕ) → 256 ^ min w 8 ≤ 256 ^ 8
word_wide w = pow-le-pow_right (omega arith) {j = 8} (omega arith)

halves : (p q n : ℕ) → p ≡ 256 * q → 1 ≤ q → leb p (2 * n) ≡ ltb ((p - 1) / 2) n
halves p q n e some =
    by_test (leb p (2 * n))
    (λ t. t ∙ sym (lt-ltb ((p - 1) / 2) n (more (leb-true p (2 * n) t))))
    (λ t. t ∙ sym (le-ltb ((p - 1) / 2) n (less (leb-false p (2 * n) t))))
  where
    more : p ≤ 2 * n → (p - 1) / 2 < n
    more h = omega arith

    less : 2 * n < p → n ≤ (p - 1) / 2
    less h = omega arith

-- the highest bit by the word
pub word_falls : (b : List ℕ) → negative b ≡ ltb ((256 ^ length b - 1) / 2) (number b)
unfolding number
word_falls [] = refl
word_falls (x ∷ s) = halves (256 ^ length (x ∷ s)) (256 ^ length s) (number (x ∷ s)) (pow-succ' 256 (length s)) (one-le-pow (length s) 256 (omega arith))

module _ (b : List ℕ) (h : Bytes b) (l : length b ≤ 8) where
  abbrev all : ℕ
  all = 256 ^ length b

  -- the word with its highest bit in every place above
  word_coded : to_z w64 (cond (negative b) (number b + (2 ^ 64 - 1 - (all - 1))) (number b)) ≡ binary_of b
  word_coded = by_test (negative b) falls rises
    where
      wide : all ≤ 256 ^ 8
      wide = pow-le-pow_right (omega arith) {j = 8} l

      falls : negative b ≡ true → to_z w64 (cond (negative b) (number b + (2 ^ 64 - 1 - (all - 1))) (number b)) ≡ binary_of b
      falls t =
          let half : all ≤ 2 * number b = leb-true all (2 * number b) t in
          let size : all - number b ≡ suc (0xFFFFFFFFFFFFFFFF - (number b + (2 ^ 64 - 1 - (all - 1)))) = omega (arith, wide, number_below b h) in
          rw (t, size) (sym (count_below (number b + (2 ^ 64 - 1 - (all - 1))) (omega (arith, wide))))

      rises : negative b ≡ false → to_z w64 (cond (negative b) (number b + (2 ^ 64 - 1 - (all - 1))) (number b)) ≡ binary_of b
      rises t =
          let half : 2 * number b < all = leb-false all (2 * number b) t in
          rw t (sym (count_above (number b) (omega (arith, wide))))

  -- the word and the greatest that the bytes hold: what they are read as
  module _ {w m : ℕ} (ew : w ≡ number b) (em : m ≡ all - 1) where
    pub word_inside : w ≤ m
    word_inside = rw (ew, em) (omega (arith, number_below b h))

    pub coded_word : {z : ℤ} → z ≡ to_z w64 (cond (ltb (m / 2) w) (w + (2 ^ 64 - 1 - m)) w)
        → ◌≡◌ {A = Coded} (record { falls = ltb (m / 2) w; count = z }) (coded_of b)
    coded_word e = rw (e, ew, em, ← word_falls b, word_coded)

-- ---- a number that fits, by its size

half_below : (p n : ℕ) → 1 ≤ p → leb n (p - 1 - (p - 1) / 2) ≡ leb (2 * n) p
half_below p n h =
    by_test (leb (2 * n) p) (λ e. le-leb n (p - 1 - (p - 1) / 2) (less (leb-true (2 * n) p e)) ∙ sym e)
    (λ e. lt-leb n (p - 1 - (p - 1) / 2) (more (leb-false (2 * n) p e)) ∙ sym e)
  where
    less : 2 * n ≤ p → n ≤ p - 1 - (p - 1) / 2
    less k = omega arith

    more : p < 2 * n → p - 1 - (p - 1) / 2 < n
    more k = omega arith

half_above : (p n : ℕ) → 1 ≤ p → leb n ((p - 1) / 2) ≡ ltb (2 * n) p
half_above p n h =
    by_test (ltb (2 * n) p) (λ e. le-leb n ((p - 1) / 2) (less (ltb-true (2 * n) p e)) ∙ sym e)
    (λ e. lt-leb n ((p - 1) / 2) (more (ltb-false (2 * n) p e)) ∙ sym e)
  where
    less : 2 * n < p → n ≤ (p - 1) / 2
    less k = omega arith

    more : p ≤ 2 * n → (p - 1) / 2 < n
    more k = omega arith

pub fits_below : (w : ℕ) (z : ℤ) → below_zero z ≡ true → leb (nat_abs z) (256 ^ w - 1 - (256 ^ w - 1) / 2) ≡ fits_binary w z
fits_below w (pos n) e = absurd (false≢true e)
fits_below w (negsuc n) e = half_below (256 ^ w) (suc n) (one-le-pow w 256 (omega arith))

pub fits_above : (w : ℕ) (z : ℤ) → below_zero z ≡ false → leb (nat_abs z) ((256 ^ w - 1) / 2) ≡ fits_binary w z
fits_above w (pos n) e = half_above (256 ^ w) n (one-le-pow w 256 (omega arith))
fits_above w (negsuc n) e = absurd (true≢false e)
