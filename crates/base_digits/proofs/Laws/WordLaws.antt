-- Packed digits in a word: what is tested on all bytes at once is tested on each of them.
use Prim.Native.Nat.{ℕ, zero, suc, ◌+◌, ◌*◌, ◌/◌, ◌%◌, ◌^◌, ◌<◌}
use mathlib.Core.Bool.{Bool, true, false, not, ◌||◌}
use mathlib.Core.Path.{◌≡◌, refl, sym, ap, ap₂, ◌∙◌}
use native.Mathlib.Omega.{arith}
use borrow.Author.Tests.{lt-ltb, le-ltb, ltb-true, ltb-false}
use lib.Bits.{bit_and, and_block, and_le_r, and_zero_r, and_lt}
use lib.Dec.{ltb, lit<}
use Rattle.base_rules.specs.Lists.{any}
use Rattle.base_digits.specs.Digits.{over_nine}
use Rattle.base_rules.proofs.Laws.Tests.{below, by_test}
use Rattle.base_numbers.specs.Numbers.{bytes_of}

-- ---- the test

-- so many bytes, all the same
abbrev pub filled : ℕ → ℕ → ℕ
filled zero d = 0
filled (suc k) d = filled k d * 2 ^ 8 + d

-- the digits of so many bytes whose 8 is set, and their 4 or their 2
abbrev pub marked : ℕ → ℕ → ℕ
marked k x = bit_and (bit_and x (bit_and x (filled k 0x66) + filled k 0x66)) (filled k 0x88)

abbrev same : Bool → Bool → Bool
same true b = b
same false b = not b

same_is : (a b : Bool) → same a b ≡ true → a ≡ b
same_is true true e = refl
same_is true false e = sym e
same_is false true e = e
same_is false false e = refl

abbrev byte_marked : ℕ → ℕ
byte_marked r = bit_and (bit_and r (bit_and r 0x66 + 0x66)) 0x88

byte_marked_lem : (r : ℕ) → r < 256 → ltb 0 (byte_marked r) ≡ over_nine r
byte_marked_lem r h = same_is (ltb 0 (byte_marked r)) (over_nine r) (below 256 (λ (x : ℕ). same (ltb 0 (byte_marked x)) (over_nine x)) refl r h)

-- a byte more
marked_byte : (a r A B : ℕ) → r < 2 ^ 8
    → bit_and (bit_and (a * 2 ^ 8 + r) (bit_and (a * 2 ^ 8 + r) (A * 2 ^ 8 + 0x66) + (A * 2 ^ 8 + 0x66))) (B * 2 ^ 8 + 0x88)
    ≡ bit_and (bit_and a (bit_and a A + A)) B * 2 ^ 8 + byte_marked r
marked_byte a r A B h =
    let low : bit_and r 0x66 + 0x66 < 2 ^ 8 = omega (arith, and_le_r r 0x66) in
    let sum : bit_and a A * 2 ^ 8 + bit_and r 0x66 + (A * 2 ^ 8 + 0x66) ≡ (bit_and a A + A) * 2 ^ 8 + (bit_and r 0x66 + 0x66) = omega arith in
    rw (
      and_block 8 a A r 0x66 h (lit< tt),
      sum,
      and_block 8 a (bit_and a A + A) r (bit_and r 0x66 + 0x66) h low,
      and_block 8 (bit_and a (bit_and a A + A)) B (bit_and r (bit_and r 0x66 + 0x66)) 0x88 (and_lt 8 r (bit_and r 0x66 + 0x66) h low) (lit< tt),
    )

either_byte : (m n : ℕ) → ltb 0 (m * 2 ^ 8 + n) ≡ (ltb 0 n || ltb 0 m)
either_byte m n =
    by_test (ltb 0 n) (λ e. rw e (lt-ltb 0 (m * 2 ^ 8 + n) (omega (arith, ltb-true 0 n e))))
    (λ e. by_test (ltb 0 m) (λ f. rw (e, f) (lt-ltb 0 (m * 2 ^ 8 + n) (omega (arith, ltb-true 0 m f))))
    (λ f. rw (e, f) (le-ltb 0 (m * 2 ^ 8 + n) (omega (arith, ltb-false 0 m f, ltb-false 0 n e)))))

pub over_bytes : (k x : ℕ) → ltb 0 (marked k x) ≡ any over_nine (bytes_of k x)
unfolding any bytes_of
over_bytes zero x = ap (ltb 0) (and_zero_r (bit_and x (bit_and x 0 + 0)))
over_bytes (suc k) x =
    let whole : x ≡ x / 256 * 2 ^ 8 + x % 256 = omega arith in
    ap (λ (y : ℕ). ltb 0 (marked (suc k) y)) whole
    ∙ ap (ltb 0) (marked_byte (x / 256) (x % 256) (filled k 0x66) (filled k 0x88) (omega arith))
    ∙ either_byte (marked k (x / 256)) (byte_marked (x % 256))
    ∙ ap₂ ◌||◌ (byte_marked_lem (x % 256) (omega arith)) (over_bytes k (x / 256))
