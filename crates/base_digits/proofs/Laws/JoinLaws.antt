-- Digits joined in a word, all lanes at once: where a lane holds a low and a high half of k bits, taking c times the high half off the
-- whole leaves m times the high half upon the low one, m + c being 2 ^ k.
use Prim.Native.Nat.{ℕ, ◌+◌, ◌*◌, ◌-◌, ◌/◌, ◌%◌, ◌^◌, ◌≤◌, ◌<◌}
use mathlib.Core.List.{List, [], ◌∷◌, map}
use mathlib.Core.Path.{◌≡◌, refl, sym, ap, ap₂, subst, subst⁻¹, ◌∙◌}
use native.Mathlib.Nat.{add-zero, zero-mul, one-mul, mul-add, add-mul, mul_comm}
use native.Mathlib.Nat.{mul_assoc, mul-le-mul_right, mul-add-div_right, mul-div_cancel, div-eq_of_lt, mod-eq_of_lt}
use native.Mathlib.Omega.{arith}
use lib.Bits.{bit_and, and_block, and_high, and_zero_l}
use lib.Pow.{pow-add, pow_pos}
use Rattle.base_rules.specs.Lists.{at}
use Rattle.base_rules.specs.Bytes.{Bytes}
use Rattle.base_rules.proofs.Laws.ByteLaws.{spelled, spell_whole}
use Rattle.base_numbers.proofs.Laws.ByteNumbers.{bytes_bytes}
use Rattle.base_digits.specs.Digits.{digits_of}
use Rattle.base_numbers.specs.Numbers.{number, bytes_of}
use Rattle.base_numbers.proofs.Laws.Numbers.{number_bytes, length_bytes}

-- a word of lanes, each a low and a high half; the high halves alone; the halves joined; and the mask of the high halves
abbrev laid : ℕ → List (ℕ × ℕ) → ℕ
laid k [] = 0
laid k (p ∷ s) = laid k s * 2 ^ (k + k) + (p.1 * 2 ^ k + p.0)

abbrev highs : ℕ → List (ℕ × ℕ) → ℕ
highs k [] = 0
highs k (p ∷ s) = highs k s * 2 ^ (k + k) + p.1

abbrev joined : ℕ → ℕ → List (ℕ × ℕ) → ℕ
joined m k [] = 0
joined m k (p ∷ s) = joined m k s * 2 ^ (k + k) + (m * p.1 + p.0)

abbrev mask : ℕ → List (ℕ × ℕ) → ℕ
mask k [] = 0
mask k (p ∷ s) = mask k s * 2 ^ (k + k) + (2 ^ (k + k) - 2 ^ k)

abbrev Halves : ℕ → List (ℕ × ℕ) → Type 0
Halves k [] = Unit {0}
Halves k (p ∷ s) = (p.0 < 2 ^ k) × (p.1 < 2 ^ k) × Halves k s

-- a whole of two parts: the second is no more than the whole, and taken off it leaves the first
record Parts (whole first second : ℕ) : Type 0 where
  sum : whole ≡ first + second

part_less : {w j x : ℕ} → Parts w j x → x ≤ w
part_less p = omega (arith, p.sum)

part_off : {w j x t : ℕ} → Parts w j x → t ≡ w - x → t ≡ j
part_off p q = omega (arith, p.sum)

module _ (k : ℕ) where
  lane : (l h : ℕ) → l < 2 ^ k → h < 2 ^ k → bit_and (h * 2 ^ k + l) (2 ^ (k + k) - 2 ^ k) ≡ h * 2 ^ k
  lane l h a b =
      and_high (h * 2 ^ k + l) k k
      ∙ ap (λ (n : ℕ). n % 2 ^ k * 2 ^ k) (mul-add-div_right (pow_pos k) h l ∙ ap (λ (n : ℕ). h + n) (div-eq_of_lt a) ∙ add-zero h)
      ∙ ap (λ (n : ℕ). n * 2 ^ k) (mod-eq_of_lt b)

  lane_fits : (l h : ℕ) → l < 2 ^ k → h < 2 ^ k → h * 2 ^ k + l < 2 ^ (k + k)
  lane_fits l h a b =
      let up : (h + 1) * 2 ^ k ≤ 2 ^ k * 2 ^ k = mul-le-mul_right (2 ^ k) (omega arith) in
      let one : (h + 1) * 2 ^ k ≡ h * 2 ^ k + 2 ^ k = add-mul h 1 (2 ^ k) ∙ ap (λ (n : ℕ). h * 2 ^ k + n) (one-mul (2 ^ k)) in
      rw (pow-add 2 k k) (omega arith)

  mask_fits : 2 ^ (k + k) - 2 ^ k < 2 ^ (k + k)
  mask_fits =
      let a : 0 < 2 ^ k = pow_pos k in
      let b : 0 < 2 ^ (k + k) = pow_pos (k + k) in
      omega arith

  picked_high : (s : List (ℕ × ℕ)) → Halves k s → bit_and (laid k s) (mask k s) ≡ highs k s * 2 ^ k
  picked_high [] h = and_zero_l 0 ∙ sym (zero-mul (2 ^ k))
  picked_high (p ∷ s) h =
      and_block (k + k) (laid k s) (mask k s) (p.1 * 2 ^ k + p.0) (2 ^ (k + k) - 2 ^ k) (lane_fits p.0 p.1 h.0 h.1) mask_fits
      ∙ ap₂ (λ (x y : ℕ). x * 2 ^ (k + k) + y) (picked_high s h.2) (lane p.0 p.1 h.0 h.1)
      ∙ ap (λ (n : ℕ). n + p.1 * 2 ^ k)
      (mul_assoc (highs k s) (2 ^ k) (2 ^ (k + k)) ∙ ap (λ (n : ℕ). highs k s * n) (mul_comm (2 ^ k) (2 ^ (k + k))) ∙ sym
      (mul_assoc (highs k s) (2 ^ (k + k)) (2 ^ k)))
      ∙ sym (add-mul (highs k s * 2 ^ (k + k)) p.1 (2 ^ k))

  module _ (m c : ℕ) (e : m + c ≡ 2 ^ k) where
    lane_joined : (l h : ℕ) → h * 2 ^ k + l ≡ m * h + l + c * h
    lane_joined l h =
        let both : h * 2 ^ k ≡ m * h + c * h = ap (λ (n : ℕ). h * n) (sym e) ∙ mul_comm h (m + c) ∙ add-mul m c h in
        omega arith

    all_joined : (s : List (ℕ × ℕ)) → laid k s ≡ joined m k s + c * highs k s
    all_joined [] = omega arith
    all_joined (p ∷ s) =
        let rest : laid k s * 2 ^ (k + k) ≡ joined m k s * 2 ^ (k + k) + c * (highs k s * 2 ^ (k + k)) =
        ap (λ (n : ℕ). n * 2 ^ (k + k)) (all_joined s) ∙ add-mul (joined m k s) (c * highs k s) (2 ^ (k + k))
        ∙ ap (λ (n : ℕ). joined m k s * 2 ^ (k + k) + n) (mul_assoc c (highs k s) (2 ^ (k + k))) in
        let here = lane_joined p.0 p.1 in
        let split : c * (highs k s * 2 ^ (k + k) + p.1) ≡ c * (highs k s * 2 ^ (k + k)) + c * p.1 = mul-add c (highs k s * 2 ^ (k + k)) p.1 in
        omega arith

    -- one step on a word of such lanes
    stepped : (s : List (ℕ × ℕ)) → Halves k s → {w : ℕ} → w ≡ laid k s → Parts w (joined m k s) (c * (bit_and w (mask k s) / 2 ^ k))
    stepped s h {w} q = record {
      sum = q ∙ all_joined s
          ∙ ap (λ (n : ℕ). joined m k s + c * n)
          (sym (ap (λ (n : ℕ). bit_and n (mask k s) / 2 ^ k) q ∙ ap (λ (n : ℕ). n / 2 ^ k) (picked_high s h) ∙ mul-div_cancel (highs k s)
          (pow_pos k)));
    }

-- ---- eight bytes

-- the digits of a byte, and of two bytes
abbrev pair : ℕ → ℕ
pair b = 10 * (b / 16) + b % 16

pair_most : (b : ℕ) → b < 256 → pair b ≤ 165
pair_most b h = omega arith

abbrev quad : ℕ → ℕ → ℕ
quad p q = 100 * q + p

-- lanes of one byte, of two and of four
abbrev bytes : List ℕ → List (ℕ × ℕ)
bytes [] = []
bytes (b ∷ s) = (b % 16, b / 16) ∷ bytes s

abbrev halves_bytes : (s : List ℕ) → Bytes s → Halves 4 (bytes s)
halves_bytes [] h = tt
halves_bytes (b ∷ s) h = (omega arith, omega (arith, h.0), halves_bytes s h.1)

bytes_laid : (s : List ℕ) → number s ≡ laid 4 (bytes s)
unfolding number
bytes_laid [] = refl
bytes_laid (b ∷ s) = let rest = bytes_laid s in omega arith

-- every byte holds at most 165
abbrev Small : List ℕ → Type 0
Small [] = Unit {0}
Small (p ∷ s) = (p ≤ 165) × Small s

abbrev small_pairs : (s : List ℕ) → Bytes s → Small (map pair s)
small_pairs [] h = tt
small_pairs (b ∷ s) h = (pair_most b h.0, small_pairs s h.1)

-- what the three steps leave of a word: nothing is taken off that is not there, and the last gives the number
pub record Joins (s : List ℕ) (w t f e : ℕ) : Type 0 where
  pub first : 6 * (bit_and w 0xF0F0F0F0F0F0F0F0 / 16) ≤ w
  pub second : 156 * (bit_and t 0xFF00FF00FF00FF00 / 256) ≤ t
  pub third : 55536 * (bit_and f 0xFFFF0000FFFF0000 / 65536) ≤ f
  pub so : e % 4294967296 + 100000000 * (e / 4294967296) ≡ digits_of s

module _ (p0 p1 p2 p3 p4 p5 p6 p7 : ℕ) (m : Small (p0 ∷ p1 ∷ p2 ∷ p3 ∷ p4 ∷ p5 ∷ p6 ∷ p7 ∷ [])) (t f e : ℕ)
    (et : t ≡ (((((((0 * 256 + p7) * 256 + p6) * 256 + p5) * 256 + p4) * 256 + p3) * 256 + p2) * 256 + p1) * 256 + p0)
    (ef : f ≡ t - 156 * (bit_and t 0xFF00FF00FF00FF00 / 256))
    (ee : e ≡ f - 55536 * (bit_and f 0xFFFF0000FFFF0000 / 65536)) where
  abbrev by_two : List (ℕ × ℕ)
  by_two = (p0, p1) ∷ (p2, p3) ∷ (p4, p5) ∷ (p6, p7) ∷ []

  abbrev by_four : List (ℕ × ℕ)
  by_four = (quad p0 p1, quad p2 p3) ∷ (quad p4 p5, quad p6 p7) ∷ []

  twos : Parts t (joined 100 8 by_two) (156 * (bit_and t 0xFF00FF00FF00FF00 / 256))
  twos = stepped 8 100 156 refl by_two
      (omega arith, omega arith, (omega arith, omega arith, (omega arith, omega arith, (omega arith, omega arith, tt)))) (omega arith)

  regroup : joined 100 8 by_two ≡ laid 16 by_four
  regroup = omega arith

  fours : Parts f (joined 10000 16 by_four) (55536 * (bit_and f 0xFFFF0000FFFF0000 / 65536))
  fours = stepped 16 10000 55536 refl by_four (omega arith, omega arith, (omega arith, omega arith, tt)) (part_off twos ef ∙ regroup)

  last : e % 4294967296 + 100000000 * (e / 4294967296)
      ≡ 100 * (100 * (100 * (100 * (100 * (100 * (100 * (100 * 0 + p7) + p6) + p5) + p4) + p3) + p2) + p1) + p0
  last =
      let so : e ≡ joined 10000 16 by_four = part_off fours ee in
      let low : 10000 * quad p2 p3 + quad p0 p1 < 4294967296 = omega arith in
      let e0 : e % 4294967296 ≡ 10000 * quad p2 p3 + quad p0 p1 = omega arith in
      let e1 : e / 4294967296 ≡ 10000 * quad p6 p7 + quad p4 p5 = omega arith in
      rw (e0, e1) (omega arith)

joins : (b0 b1 b2 b3 b4 b5 b6 b7 : ℕ) → Bytes (b0 ∷ b1 ∷ b2 ∷ b3 ∷ b4 ∷ b5 ∷ b6 ∷ b7 ∷ []) → (w t f e : ℕ) → w ≡ number
    (b0 ∷ b1 ∷ b2 ∷ b3 ∷ b4 ∷ b5 ∷ b6 ∷ b7 ∷ [])
    → t ≡ w - 6 * (bit_and w 0xF0F0F0F0F0F0F0F0 / 16)
    → f ≡ t - 156 * (bit_and t 0xFF00FF00FF00FF00 / 256)
    → e ≡ f - 55536 * (bit_and f 0xFFFF0000FFFF0000 / 65536)
    → Joins (b0 ∷ b1 ∷ b2 ∷ b3 ∷ b4 ∷ b5 ∷ b6 ∷ b7 ∷ []) w t f e
unfolding digits_of
joins b0 b1 b2 b3 b4 b5 b6 b7 h w t f e q et ef ee =
    let s : List ℕ = b0 ∷ b1 ∷ b2 ∷ b3 ∷ b4 ∷ b5 ∷ b6 ∷ b7 ∷ [] in
    let m : Small (map pair s) = small_pairs s h in
    let w1 : Parts w (joined 10 4 (bytes s)) (6 * (bit_and w 0xF0F0F0F0F0F0F0F0 / 16)) = stepped 4 10 6 refl (bytes s) (halves_bytes s h) (q ∙ bytes_laid s) in
    let t1 : t ≡ joined 10 4 (bytes s) = part_off w1 et in
    record {
      first = part_less w1;
      second = part_less (twos (pair b0) (pair b1) (pair b2) (pair b3) (pair b4) (pair b5) (pair b6) (pair b7) m t f e t1 ef ee);
      third = part_less (fours (pair b0) (pair b1) (pair b2) (pair b3) (pair b4) (pair b5) (pair b6) (pair b7) m t f e t1 ef ee);
      so = last (pair b0) (pair b1) (pair b2) (pair b3) (pair b4) (pair b5) (pair b6) (pair b7) m t f e t1 ef ee;
    }

pub word_joins : (w t f e : ℕ) → w < 256 ^ 8
    → t ≡ w - 6 * (bit_and w 0xF0F0F0F0F0F0F0F0 / 16)
    → f ≡ t - 156 * (bit_and t 0xFF00FF00FF00FF00 / 256)
    → e ≡ f - 55536 * (bit_and f 0xFFFF0000FFFF0000 / 65536)
    → Joins (bytes_of 8 w) w t f e
word_joins w t f e h et ef ee =
    let s : List ℕ = bytes_of 8 w in
    let spelt : s ≡ spelled 8 0 s = spell_whole 8 s (length_bytes 8 w) in
    subst⁻¹ (λ (l : List ℕ). Joins l w t f e) spelt
    (joins (at s 0) (at s 1) (at s 2) (at s 3) (at s 4) (at s 5) (at s 6) (at s 7) (subst Bytes spelt (bytes_bytes 8 w)) w t f e
    (sym (number_bytes 8 w h) ∙ ap number spelt) et ef ee)
