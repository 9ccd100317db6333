-- Packed digits both ways, over the number of bytes.
use Prim.Native.Nat.{ℕ, zero, suc, ◌+◌, ◌*◌, ◌/◌, ◌%◌, ◌^◌, ◌<◌, ◌≤◌}
use mathlib.Core.Bool.{false}
use mathlib.Core.List.{List, [], ◌∷◌}
use mathlib.Core.Path.{◌≡◌, refl, ap, ap₂}
use native.Mathlib.Nat.{pow-succ', div-div-eq-div-mul}
use native.Mathlib.Omega.{arith}
use borrow.Author.Tests.{ltb-false, le-ltb}
use lib.Dec.{ltb, lit<}
use lib.ListN.{length}
use Rattle.base_rules.specs.Lists.{any}
use Rattle.base_digits.specs.Digits.{over_nine, digits_of, packed}
use Rattle.base_rules.proofs.Laws.TestLaws.{none}
use Rattle.base_rules.specs.Bytes.{Bytes}

-- ---- one byte: tens t and units u before d hundreds

abbrev upon : ℕ → ℕ → ℕ → ℕ
upon d t u = 100 * d + (10 * t + u)

module _ (d t u : ℕ) (h : t ≤ 9) (k : u ≤ 9) where
  tens : upon d t u / 10 ≡ 10 * d + t
  tens = omega arith

  units : upon d t u % 10 ≡ u
  units = omega arith

  hundreds : upon d t u / 100 ≡ d
  hundreds = omega arith

  ten : upon d t u / 10 % 10 ≡ t
  ten = rw tens (omega arith)

split : (n : ℕ) → upon (n / 100) (n / 10 % 10) (n % 10) ≡ n
split n =
    let e : n / 10 / 10 ≡ n / 100 = div-div-eq-div-mul n 10 10 in
    omega arith

-- ---- from bytes to a number and back

pub packed_digits : (b : List ℕ) → any over_nine b ≡ false → packed (length b) (digits_of b) ≡ b
unfolding any digits_of packed
packed_digits [] e = refl
packed_digits (x ∷ s) e =
    let h = none (over_nine x) (any over_nine s ∷ []) e in
    let k = none (ltb 9 (x % 16)) (ltb 9 (x / 16) ∷ []) h.0 in
    let t : x / 16 ≤ 9 = omega (arith, ltb-false) in
    let u : x % 16 ≤ 9 = omega (arith, ltb-false) in
    rw (ten (digits_of s) (x / 16) (x % 16) t u, units (digits_of s) (x / 16) (x % 16) t u, hundreds (digits_of s) (x / 16) (x % 16) t u) (
    ap₂ (λ (y : ℕ) (l : List ℕ). y ∷ l) (omega arith) (packed_digits s h.1.0))

pub digits_below : (b : List ℕ) → any over_nine b ≡ false → digits_of b < 100 ^ length b
unfolding any digits_of
digits_below [] e = lit< tt
digits_below (x ∷ s) e =
    let h = none (over_nine x) (any over_nine s ∷ []) e in
    let k = none (ltb 9 (x % 16)) (ltb 9 (x / 16) ∷ []) h.0 in
    let r : digits_of s < 100 ^ length s = digits_below s h.1.0 in
    let p : 100 ^ suc (length s) ≡ 100 * 100 ^ length s = pow-succ' 100 (length s) in
    omega (arith, ltb-false)

-- ---- from a number to bytes and back

pub digits_packed : (k n : ℕ) → n < 100 ^ k → digits_of (packed k n) ≡ n
unfolding digits_of packed
digits_packed zero n h = omega arith
digits_packed (suc k) n h =
    let p : 100 ^ suc k ≡ 100 * 100 ^ k = pow-succ' 100 k in
    let q : n / 100 < 100 ^ k = omega arith in
    let r : digits_of (packed k (n / 100)) ≡ n / 100 = digits_packed k (n / 100) q in
    let t : (16 * (n / 10 % 10) + n % 10) / 16 ≡ n / 10 % 10 = omega arith in
    let u : (16 * (n / 10 % 10) + n % 10) % 16 ≡ n % 10 = omega arith in
    rw (r, t, u) (split n)

pub packed_right : (k n : ℕ) → any over_nine (packed k n) ≡ false
unfolding any packed
packed_right zero n = refl
packed_right (suc k) n =
    let t : (16 * (n / 10 % 10) + n % 10) / 16 ≤ 9 = omega arith in
    let u : (16 * (n / 10 % 10) + n % 10) % 16 ≤ 9 = omega arith in
    rw (le-ltb 9 ((16 * (n / 10 % 10) + n % 10) % 16) u, le-ltb 9 ((16 * (n / 10 % 10) + n % 10) / 16) t) (packed_right k (n / 100))

pub length_packed : (k n : ℕ) → length (packed k n) ≡ k
unfolding packed
length_packed zero n = refl
length_packed (suc k) n = ap suc (length_packed k (n / 100))

pub bytes_packed : (k n : ℕ) → Bytes (packed k n)
unfolding packed
bytes_packed zero n = tt
bytes_packed (suc k) n = (omega arith, bytes_packed k (n / 100))
