-- Packed digits gathered in a word: the bytes of the word are those gathered, and zeros.
use Prim.Native.Nat.{ℕ, zero, suc, ◌+◌, ◌*◌, ◌/◌, ◌%◌, ◌^◌, ◌≤◌, ◌<◌}
use mathlib.Core.Bool.{false}
use mathlib.Core.List.{List, [], ◌∷◌}
use mathlib.Core.Path.{◌≡◌, refl}
use native.Mathlib.Nat.{pow-suc, le_trans, pow-le-pow_right, mul-le-mul_left}
use native.Mathlib.Omega.{arith}
use lib.Dec.{lit<}
use lib.ListN.{length, take, length-take}
use Rattle.base_rules.specs.Lists.{at, any}
use Rattle.base_rules.specs.Bytes.{Bytes}
use Rattle.base_rules.proofs.Laws.ByteLaws.{bytes_each, bytes_take}
use Rattle.base_digits.specs.Digits.{over_nine, digits_of, packed_of}
use Rattle.base_numbers.specs.Numbers.{number, bytes_of}

-- ---- the word

no_digits : (k : ℕ) → any over_nine (bytes_of k 0) ≡ false
unfolding any bytes_of
no_digits zero = refl
no_digits (suc k) = no_digits k

no_count : (k : ℕ) → digits_of (bytes_of k 0) ≡ 0
unfolding digits_of bytes_of
no_count zero = refl
no_count (suc k) = rw (no_count k)

module _ (b n : ℕ) (h : b < 256) where
  low_byte : (b + 256 * n) % 256 ≡ b
  low_byte = omega arith

  high_bytes : (b + 256 * n) / 256 ≡ n
  high_bytes = omega arith

word_tested : (k : ℕ) (s : List ℕ) → Bytes s → length s ≤ k → any over_nine (bytes_of k (number s)) ≡ any over_nine s
unfolding any bytes_of number
word_tested k [] h l = no_digits k
word_tested zero (b ∷ s) h l = absurd (omega arith)
word_tested (suc k) (b ∷ s) h l = rw (low_byte b (number s) h.0, high_bytes b (number s) h.0, word_tested k s h.1 (omega arith))

word_counted : (k : ℕ) (s : List ℕ) → Bytes s → length s ≤ k → digits_of (bytes_of k (number s)) ≡ digits_of s
unfolding digits_of bytes_of number
word_counted k [] h l = no_count k
word_counted zero (b ∷ s) h l = absurd (omega arith)
word_counted (suc k) (b ∷ s) h l = rw (low_byte b (number s) h.0, high_bytes b (number s) h.0, word_counted k s h.1 (omega arith))

-- what the word holds is what the bytes hold of which it was gathered
pub word_whole : (s : List ℕ) → Bytes s → length s ≤ 8 → packed_of (bytes_of 8 (number s)) ≡ packed_of s
word_whole s b l = λ i. record { wrong = word_tested 8 s b l i; count = word_counted 8 s b l i }

pub word_packed : (k : ℕ) (s : List ℕ) → ((i : ℕ) → at s i < 256) → k ≤ 8 → packed_of (bytes_of 8 (number (take k s))) ≡ packed_of (take k s)
word_packed k s h m = word_whole (take k s) (bytes_take k s (bytes_each s h)) (omega (arith, length-take k s))

-- ---- the meter number, four bytes

-- each byte counts at most 165
digit_step : (d b p : ℕ) → b < 256 → 3 * d + 5 ≤ 5 * p → 3 * (100 * d + (10 * (b / 16) + b % 16)) + 5 ≤ 5 * (p * 100)
digit_step d b p h e = omega arith

pub digits_most : (s : List ℕ) → Bytes s → 3 * digits_of s + 5 ≤ 5 * 100 ^ length s
unfolding digits_of
digits_most [] h = omega arith
digits_most (b ∷ s) h = rw (pow-suc 100 (length s)) (digit_step (digits_of s) b (100 ^ length s) h.0 (digits_most s h.1))

pub number_fits : (part : List ℕ) → ((i : ℕ) → at part i < 256) → 3 * digits_of (take 4 part) + 5 ≤ 5 * 100 ^ 4
number_fits part h =
    le_trans (digits_most (take 4 part) (bytes_take 4 part (bytes_each part h)))
    (mul-le-mul_left 5 (pow-le-pow_right (lit< tt) {j = 4} (omega (arith, length-take 4 part))))
