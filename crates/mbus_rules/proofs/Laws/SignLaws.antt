-- Signed digits both ways, over the number of bytes: for sign and digits together.
use Prim.Native.Nat.{ℕ, zero, suc, ◌+◌, ◌*◌, ◌/◌, ◌%◌, ◌^◌, ◌<◌, ◌≤◌}
use mathlib.Core.Bool.{true, false, false≢true}
use mathlib.Core.List.{List, [], ◌∷◌}
use mathlib.Core.Path.{◌≡◌, refl, sym, ap, subst, ◌∙◌}
use native.Mathlib.Nat.{pow-succ'}
use native.Mathlib.Omega.{arith}
use borrow.Author.Tests.{eqb-true, eqb-false, ne_eqb, ltb-true, lt-ltb, ltb-false}
use lib.Dec.{ltb, eqb}
use lib.IntN.{ℤ, pos, negsuc}
use lib.ListN.{length}
use Rattle.base_rules.specs.Lists.{any}
use Rattle.base_digits.specs.Digits.{over_nine, digits_of, packed}
use Rattle.base_rules.specs.Bytes.{Bytes}
use Rattle.mbus_rules.specs.Signs.{minus, size_bytes, marked, signed_of, wrong_signed, signed_bytes, fits_signed}
use Rattle.base_numbers.specs.TwosComplement.{below_zero}
use Rattle.base_rules.proofs.Laws.Tests.{by_test, neither}
use Rattle.base_rules.proofs.Laws.TestLaws.{none}
use Rattle.base_digits.proofs.Laws.DigitLaws.{packed_digits, digits_below, digits_packed, packed_right, length_packed, bytes_packed}

-- ---- the mark, taken off and put on

pub size_length : (b : List ℕ) → length (size_bytes b) ≡ length b
unfolding size_bytes
size_length [] = refl
size_length (b ∷ []) = refl
size_length (b ∷ c ∷ s) = ap suc (size_length (c ∷ s))

marked_length : (b : List ℕ) → length (marked b) ≡ length b
unfolding marked
marked_length [] = refl
marked_length (b ∷ []) = refl
marked_length (b ∷ c ∷ s) = ap suc (marked_length (c ∷ s))

-- each of them looks at the last byte alone
size_cons : (b : ℕ) (t : List ℕ) → 1 ≤ length t → size_bytes (b ∷ t) ≡ b ∷ size_bytes t
unfolding size_bytes
size_cons b [] h = absurd (omega arith)
size_cons b (c ∷ t) h = refl

minus_cons : (b : ℕ) (t : List ℕ) → 1 ≤ length t → minus (b ∷ t) ≡ minus t
unfolding minus
minus_cons b [] h = absurd (omega arith)
minus_cons b (c ∷ t) h = refl

pub marked_cons : (b : ℕ) (t : List ℕ) → 1 ≤ length t → marked (b ∷ t) ≡ b ∷ marked t
unfolding marked
marked_cons b [] h = absurd (omega arith)
marked_cons b (c ∷ t) h = refl

-- what is marked and has its mark taken off is marked again
marked_size : (b : List ℕ) → Bytes b → minus b ≡ true → marked (size_bytes b) ≡ b
unfolding minus size_bytes marked
marked_size [] h m = refl
marked_size (b ∷ []) h m =
    let top : b / 16 ≡ 15 = eqb-true (b / 16) 15 m in
    let whole : 0xF0 + b % 16 ≡ b = omega arith in
    ap (λ (x : ℕ). x ∷ []) whole
marked_size (b ∷ c ∷ s) h m =
    marked_cons b (size_bytes (c ∷ s)) (omega (arith, size_length (c ∷ s))) ∙ ap (λ (r : List ℕ). b ∷ r) (marked_size (c ∷ s) h.1 m)

-- digits whose highest is 0: they leave room for a mark
room : (k n : ℕ) → 10 * n < 100 ^ k → size_bytes (marked (packed k n)) ≡ packed k n
unfolding packed size_bytes marked
room zero n h = refl
room (suc zero) n h =
    let few : n < 10 = omega arith in
    let small : (0xF0 + (16 * (n / 10 % 10) + n % 10)) % 16 ≡ 16 * (n / 10 % 10) + n % 10 = omega arith in
    ap (λ (x : ℕ). x ∷ []) small
room (suc (suc k)) n h =
    let p : 100 ^ suc (suc k) ≡ 100 * 100 ^ suc k = pow-succ' 100 (suc k) in
    let q : 100 ^ suc k ≡ 100 * 100 ^ k = pow-succ' 100 k in
    let t : List ℕ = packed (suc k) (n / 100) in
    let x : ℕ = 16 * (n / 10 % 10) + n % 10 in
    let l : length t ≡ suc k = length_packed (suc k) (n / 100) in
    ap size_bytes (marked_cons x t (omega arith)) ∙ size_cons x (marked t) (omega (arith, marked_length t))
    ∙ ap (λ (r : List ℕ). x ∷ r) (room (suc k) (n / 100) (omega arith))

minus_marked : (k n : ℕ) → 10 * n < 100 ^ suc k → minus (marked (packed (suc k) n)) ≡ true
unfolding packed minus marked
minus_marked zero n h =
    let top : (0xF0 + (16 * (n / 10 % 10) + n % 10)) / 16 ≡ 15 = omega arith in
    rw top
minus_marked (suc k) n h =
    let p : 100 ^ suc (suc k) ≡ 100 * 100 ^ suc k = pow-succ' 100 (suc k) in
    let q : 100 ^ suc k ≡ 100 * 100 ^ k = pow-succ' 100 k in
    let t : List ℕ = packed (suc k) (n / 100) in
    let x : ℕ = 16 * (n / 10 % 10) + n % 10 in
    let l : length t ≡ suc k = length_packed (suc k) (n / 100) in
    ap minus (marked_cons x t (omega arith)) ∙ minus_cons x (marked t) (omega (arith, marked_length t)) ∙ minus_marked k (n / 100) (omega arith)

-- plain digits have no mark
pub plain : (b : List ℕ) → any over_nine b ≡ false → minus b ≡ false
unfolding any minus
plain [] e = refl
plain (b ∷ []) e =
    let h = none (over_nine b) (any over_nine [] ∷ []) e in
    let k = none (ltb 9 (b % 16)) (ltb 9 (b / 16) ∷ []) h.0 in
    ne_eqb (b / 16) 15 (λ t. absurd (omega (arith, ltb-false 9 (b / 16) k.1.0)))
plain (b ∷ c ∷ s) e = plain (c ∷ s) (none (over_nine b) (any over_nine (c ∷ s) ∷ []) e).1.0

sums : (d t u m₀ m₁ m₂ : ℕ) → t ≤ 9 → u ≤ 9 → m₂ ≡ 100 * m₁ → m₁ ≡ 100 * m₀ → 10 * d < m₁ → 10 * (100 * d + (10 * t + u)) < m₂
sums d t u m₀ m₁ m₂ ht hu p q r = omega arith

-- the size leaves room for the mark
size_small : (b : List ℕ) → any over_nine (size_bytes b) ≡ false → minus b ≡ true → 10 * digits_of (size_bytes b) < 100 ^ length b
unfolding any size_bytes digits_of minus
size_small [] e h = absurd (false≢true h)
size_small (b ∷ []) e h =
    let k = none (over_nine (b % 16)) (any over_nine [] ∷ []) e in
    let u = none (ltb 9 (b % 16 % 16)) (ltb 9 (b % 16 / 16) ∷ []) k.0 in
    let p : 100 ^ 1 ≡ 100 = refl in
    omega (arith, ltb-false 9 (b % 16 % 16) u.0)
size_small (b ∷ c ∷ s) e h =
    let k = none (over_nine b) (any over_nine (size_bytes (c ∷ s)) ∷ []) e in
    let u = none (ltb 9 (b % 16)) (ltb 9 (b / 16) ∷ []) k.0 in
    let r : 10 * digits_of (size_bytes (c ∷ s)) < 100 ^ length (c ∷ s) = size_small (c ∷ s) k.1.0 h in
    let p : 100 ^ length (b ∷ c ∷ s) ≡ 100 * 100 ^ length (c ∷ s) = pow-succ' 100 (length (c ∷ s)) in
    let q : 100 ^ length (c ∷ s) ≡ 100 * 100 ^ length s = pow-succ' 100 (length s) in
    let t : b / 16 ≤ 9 = ltb-false 9 (b / 16) u.1.0 in
    let v : b % 16 ≤ 9 = ltb-false 9 (b % 16) u.0 in
    sums (digits_of (size_bytes (c ∷ s))) (b / 16) (b % 16) (100 ^ length s) (100 ^ length (c ∷ s)) (100 ^ length (b ∷ c ∷ s)) t v p q r

bytes_marked : (k n : ℕ) → 10 * n < 100 ^ k → Bytes (marked (packed k n))
unfolding packed marked
bytes_marked zero n h = tt
bytes_marked (suc zero) n h =
    let few : n < 10 = omega arith in
    (omega arith, tt)
bytes_marked (suc (suc k)) n h =
    let p : 100 ^ suc (suc k) ≡ 100 * 100 ^ suc k = pow-succ' 100 (suc k) in
    let q : 100 ^ suc k ≡ 100 * 100 ^ k = pow-succ' 100 k in
    let t : List ℕ = packed (suc k) (n / 100) in
    let x : ℕ = 16 * (n / 10 % 10) + n % 10 in
    let l : length t ≡ suc k = length_packed (suc k) (n / 100) in
    let small : x < 256 = omega arith in
    let rest : Bytes (marked t) = bytes_marked (suc k) (n / 100) (omega arith) in
    subst Bytes (sym (marked_cons x t (omega arith))) (small, rest)

-- ---- both ways

-- signed digits that are read are written again
pub record SignedRead (b : List ℕ) : Type 0 where
  pub back : signed_bytes (length b) (signed_of b) ≡ b
  pub fits : fits_signed (length b) (signed_of b) ≡ true
  pub sign : below_zero (signed_of b) ≡ minus b

pub signed_read : (b : List ℕ) → Bytes b → wrong_signed b ≡ false → SignedRead b
signed_read b bytes e = by_test (minus b) below above
  where
    below : minus b ≡ true → SignedRead b
    below m = go (digits_of (size_bytes b)) refl
      where
        k : (any over_nine (size_bytes b) ≡ false) × (eqb (digits_of (size_bytes b)) 0 ≡ false)
        k = neither (any over_nine (size_bytes b)) (eqb (digits_of (size_bytes b)) 0) (rw m at e)

        go : (n : ℕ) → digits_of (size_bytes b) ≡ n → SignedRead b
        go zero z = absurd (eqb-false (digits_of (size_bytes b)) 0 k.1 z)
        go (suc n) z =
            let small : 10 * suc n < 100 ^ length b = rw z at (size_small b k.0 m) in
            let again : packed (length b) (suc n) ≡ size_bytes b = rw (size_length b, z) at (packed_digits (size_bytes b) k.0) in
            record {
              back = rw (m, z) (ap marked again ∙ marked_size b bytes m);
              fits = rw (m, z) (lt-ltb (10 * suc n) (100 ^ length b) small);
              sign = rw (m, z);
            }

    above : minus b ≡ false → SignedRead b
    above m =
        let d : any over_nine b ≡ false = rw m at e in
        record {
          back = rw m (packed_digits b d);
          fits = rw m (lt-ltb (digits_of b) (100 ^ length b) (digits_below b d));
          sign = rw m;
        }

-- a number that fits, written, is read as itself
pub record SignedWritten (w : ℕ) (z : ℤ) : Type 0 where
  pub back : signed_of (signed_bytes w z) ≡ z
  pub right : wrong_signed (signed_bytes w z) ≡ false
  pub sign : minus (signed_bytes w z) ≡ below_zero z
  pub width : length (signed_bytes w z) ≡ w
  pub bytes : Bytes (signed_bytes w z)

pub signed_written : (w : ℕ) (z : ℤ) → fits_signed w z ≡ true → SignedWritten w z
signed_written w (pos n) e =
    let h : n < 100 ^ w = ltb-true n (100 ^ w) e in
    let m : minus (packed w n) ≡ false = plain (packed w n) (packed_right w n) in
    record {
      back = rw (m, digits_packed w n h);
      right = rw (m, packed_right w n);
      sign = m;
      width = length_packed w n;
      bytes = bytes_packed w n;
    }
signed_written zero (negsuc n) e = absurd (none_fits n (ltb-true (10 * suc n) (100 ^ 0) e))
  where
    none_fits : (n : ℕ) → 10 * suc n < 1 → ⊥
    none_fits n h = omega arith
signed_written (suc k) (negsuc n) e =
    let h : 10 * suc n < 100 ^ suc k = ltb-true (10 * suc n) (100 ^ suc k) e in
    let fit : suc n < 100 ^ suc k = omega arith in
    let m : minus (marked (packed (suc k) (suc n))) ≡ true = minus_marked k (suc n) h in
    let size : size_bytes (marked (packed (suc k) (suc n))) ≡ packed (suc k) (suc n) = room (suc k) (suc n) h in
    let n-is : digits_of (packed (suc k) (suc n)) ≡ suc n = digits_packed (suc k) (suc n) fit in
    let some : eqb (suc n) 0 ≡ false = ne_eqb (suc n) 0 (λ z. absurd (omega arith)) in
    record {
      back = rw (m, size, n-is);
      right = rw (m, size, packed_right (suc k) (suc n), n-is, some);
      sign = m;
      width = marked_length (packed (suc k) (suc n)) ∙ length_packed (suc k) (suc n);
      bytes = bytes_marked (suc k) (suc n) h;
    }
