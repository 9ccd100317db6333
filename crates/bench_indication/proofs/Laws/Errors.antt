-- Laws of `specs/Errors`.
use Prim.Native.Nat.{ℕ, ◌-◌, ◌*◌, ◌≤◌, ◌<◌}
use mathlib.Core.Path.{◌≡◌, refl}
use mathlib.Core.Bool.{false, ◌||◌}
use mathlib.Mathlib.Data.Bool.Basic.{or-eq-false-eq-eq-false-and-eq-false as or_parts}
use native.Mathlib.Omega.{arith}
use lib.Dec.{ltb}
use borrow.Author.Tests.{ltb-false}
use lib.IntN.{pos, neg_ℤ, ◌-ℤ◌, ◌*ℤ◌}
use Rattle.base_rules.specs.Answers.{reads}
use Rattle.base_numbers.proofs.Laws.Integers.{difference, difference_neg, times_neg}
use Rattle.base_numbers.specs.Rounding.{nearest, Nearest}
use Rattle.base_numbers.proofs.Laws.Rounding.{rounded_neg, rounded_nearest}
use Rattle.bench_indication.specs.Errors.{count_most, error_of, count_over, indication_of, tenths}

-- 01, value 12: rises 10005, 9995, 10004 and 0 against 10000
pub value-12 :
    (indication_of 0 10005 0 10000 ≡ reads (pos 1))
    × (indication_of 0 9995 0 10000 ≡ reads (neg_ℤ (pos 1)))
    × (indication_of 0 10004 0 10000 ≡ reads (pos 0))
    × (indication_of 0 0 0 10000 ≡ reads (neg_ℤ (pos 1000)))
unfolding error_of
value-12 = (refl, refl, refl, refl)

-- Laws: no integer is nearer than the error, and of two as near it is the one farther from zero.
pub error_nearest : (m1 m2 s1 s2 : ℕ) → s1 < s2 → Nearest (pos 1000 *ℤ ((pos m2 -ℤ pos m1) -ℤ (pos s2 -ℤ pos s1))) (s2 - s1) (error_of m1 m2 s1 s2)
unfolding error_of
error_nearest m1 m2 s1 s2 h = rounded_nearest (pos 1000 *ℤ ((pos m2 -ℤ pos m1) -ℤ (pos s2 -ℤ pos s1))) (s2 - s1) (omega arith)

pub error_rises : (m1 m2 s1 s2 : ℕ) → m1 ≤ m2 → s1 ≤ s2 → error_of m1 m2 s1 s2 ≡ tenths (m2 - m1) (s2 - s1)
unfolding error_of tenths
error_rises m1 m2 s1 s2 h k = rw (difference m2 m1 h, difference s2 s1 k)

-- The same of one rise against another.
pub tenths_nearest : (x y : ℕ) → 0 < y → Nearest (pos 1000 *ℤ (pos x -ℤ pos y)) y (tenths x y)
unfolding tenths
tenths_nearest x y h = rounded_nearest (pos 1000 *ℤ (pos x -ℤ pos y)) y h

pub tenths_more : (x y : ℕ) → y ≤ x → tenths x y ≡ pos (nearest (1000 * (x - y)) y)
unfolding tenths
tenths_more x y h = rw (difference x y h)

pub tenths_less : (x y : ℕ) → x < y → tenths x y ≡ neg_ℤ (pos (nearest (1000 * (y - x)) y))
unfolding tenths
tenths_less x y h =
    rw (difference_neg x y (omega arith), times_neg 1000 (pos (y - x)), rounded_neg (pos (1000 * (y - x))) y (omega arith))

-- What 60 leaves of the counts
pub counts_fit : (m1 m2 s1 s2 : ℕ) → count_over m1 m2 s1 s2 ≡ false → (m2 ≤ count_most) × (s2 ≤ count_most)
counts_fit m1 m2 s1 s2 e =
    let last = (or_parts (ltb count_most m1 || ltb count_most m2 || ltb count_most s1) (ltb count_most s2)).0 e in
    let three = (or_parts (ltb count_most m1 || ltb count_most m2) (ltb count_most s1)).0 last.0 in
    let two = (or_parts (ltb count_most m1) (ltb count_most m2)).0 three.0 in
    (ltb-false count_most m2 two.1, ltb-false count_most s2 last.1)
