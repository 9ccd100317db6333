-- Laws of numbers low byte first, over the width.
use Prim.Native.Nat.{ℕ, zero, suc, ◌+◌, ◌*◌, ◌-◌, ◌/◌, ◌%◌, ◌^◌, ◌≤◌, ◌<◌, min}
use mathlib.Core.List.{List, [], ◌∷◌, ◌++◌}
use mathlib.Core.Path.{◌≡◌, refl, sym, ap, ◌∙◌}
use native.Mathlib.Nat.{pow-suc, pow-zero, pow-succ', one-le-pow, pow-le-pow_right}
use native.Mathlib.Nat.{mod-one, mod-lt, mod-add-div, mod-eq_of_lt, mul_assoc, add-mul-mod_self_left}
use native.Mathlib.Omega.{arith}
use lib.ListN.{length, take, drop, length-drop, drop_of_length-le}
use lib.Seq.{take-nil}
use mir.Syntax.{w64}
use Rattle.std.specs.Int.{from_le_bytes, to_le_bytes, bytes_low_first}
use Rattle.std.proofs.lemmas.List.{take_min, length-take}
use Rattle.std.proofs.Math.Nat.{div-div-eq-div-mul, div-one}
use Rattle.base_numbers.specs.Numbers.{number, bytes_of, Numbered}
use Rattle.base_rules.proofs.Laws.ByteLaws.{bytes_each}
use Rattle.base_numbers.proofs.Laws.ByteNumbers.{bytes_number}
use Rattle.base_numbers.proofs.Laws.ByteNumbers.{number_below as bytes_below_width}
use Rattle.base_rules.proofs.Laws.ByteLaws.{EachByte, byte_at}
use Rattle.base_numbers.proofs.Laws.ByteNumbers.{bytes_bytes}

pub number_below : (k : ℕ) (s : List ℕ) → EachByte s → number (take k s) < 256 ^ k
unfolding number
number_below zero s h = rw pow-zero (omega arith)
number_below (suc k) [] h = omega (arith, one-le-pow (suc k) 256 (omega arith))
number_below (suc k) (b ∷ s) h = rw pow-suc (omega (arith, number_below k s (λ i. h (suc i)), h 0))

-- ---- bytes that are read and written at once, eight of them

pub number_padded : (s : List ℕ) → length s ≤ 8 → from_le_bytes w64 (s ++ drop (length s) (0 ∷ 0 ∷ 0 ∷ 0 ∷ 0 ∷ 0 ∷ 0 ∷ 0 ∷ [])) ≡ number s
unfolding number
number_padded [] h = refl
number_padded (a ∷ []) h = omega arith
number_padded (a ∷ b ∷ []) h = omega arith
number_padded (a ∷ b ∷ c ∷ []) h = omega arith
number_padded (a ∷ b ∷ c ∷ d ∷ []) h = omega arith
number_padded (a ∷ b ∷ c ∷ d ∷ e ∷ []) h = omega arith
number_padded (a ∷ b ∷ c ∷ d ∷ e ∷ f ∷ []) h = omega arith
number_padded (a ∷ b ∷ c ∷ d ∷ e ∷ f ∷ g ∷ []) h = omega arith
number_padded (a ∷ b ∷ c ∷ d ∷ e ∷ f ∷ g ∷ i ∷ []) h = omega arith
number_padded (a ∷ b ∷ c ∷ d ∷ e ∷ f ∷ g ∷ i ∷ j ∷ s) h = absurd (omega arith)

pub number_small : (s : List ℕ) {n : ℕ} → EachByte s → n ≡ number s → (n ≡ number s) × (n < 256 ^ length s)
number_small s h e = (e, rw e (bytes_below_width s (bytes_each s h)))

bytes_from : (i k n : ℕ) → bytes_low_first i k n ≡ bytes_of k (n / 256 ^ i)
unfolding bytes_of
bytes_from i zero n = refl
bytes_from zero (suc k) n = rw (pow-zero, div-one) (ap (λ (s : List ℕ). n % 256 ∷ s) (bytes_from 1 k n))
bytes_from (suc i) (suc k) n =
    let rest : n / 256 ^ suc (suc i) ≡ n / 256 ^ suc i / 256 = ap (λ (m : ℕ). n / m) (pow-suc 256 (suc i)) ∙ sym (div-div-eq-div-mul n (256 ^ suc i) 256) in
    ap (λ (s : List ℕ). n / 256 ^ suc i % 256 ∷ s) (bytes_from (suc (suc i)) k n ∙ ap (bytes_of k) rest)

pub bytes_written : (n : ℕ) → to_le_bytes w64 n ≡ bytes_of 8 n
bytes_written n = bytes_from 0 8 n ∙ ap (bytes_of 8) (rw pow-zero (div-one n))

-- ---- bytes that are missing

pub numbered_none : (s : List ℕ) (at width : ℕ) → length s < at → Numbered s at width 0
unfolding number
numbered_none s at width h =
    let past : length s ≤ at = omega arith in
    record {
      so = rw (drop_of_length-le s past, take-nil width);
      fits = omega (arith, one-le-pow width 256 (omega arith));
    }

pub numbered_part : (s : List ℕ) (at width k : ℕ) {r : ℕ} → at ≤ length s → k ≡ min width (length s - at) → r ≡ number (take k (drop at s)) → r < 256 ^ length (take k (drop at s))
    → Numbered s at width r
numbered_part s at width k {r} h e n f =
    let size : length (drop at s) ≡ length s - at = length-drop at s in
    let all : take k (drop at s) ≡ take width (drop at s) =
    ap (λ (j : ℕ). take j (drop at s)) (e ∙ ap (min width) (sym size)) ∙ take_min width (drop at s) in
    let short : length (take k (drop at s)) ≤ width = omega (arith, length-take k (drop at s)) in
    let most : 256 ^ length (take k (drop at s)) ≤ 256 ^ width = pow-le-pow_right (omega arith) short in
    record { so = n ∙ ap number all; fits = omega arith }

-- ---- written and read back

-- the lowest bytes of a number stand first
pub bytes_first : (k w n : ℕ) → k ≤ w → take k (bytes_of w n) ≡ bytes_of k n
unfolding bytes_of
bytes_first zero w n h = refl
bytes_first (suc k) zero n h = absurd (omega arith)
bytes_first (suc k) (suc w) n h = ap (λ (s : List ℕ). n % 256 ∷ s) (bytes_first k w (n / 256) (omega arith))

-- the rest by 256 times as much, one byte of it first
rest_by_byte : (n p : ℕ) → 0 < p → n % 256 + 256 * (n / 256 % p) ≡ n % (256 * p)
rest_by_byte n p h =
    let q : ℕ = n / 256 in
    let small : q % p < p = mod-lt q h in
    let split : q % p + p * (q / p) ≡ q = mod-add-div q p in
    let parts : 256 * p * (q / p) ≡ 256 * (p * (q / p)) = mul_assoc 256 p (q / p) in
    let whole : n % 256 + 256 * (q % p) + 256 * p * (q / p) ≡ n = rw parts (omega arith) in
    let below : n % 256 + 256 * (q % p) < 256 * p = omega arith in
    sym (mod-eq_of_lt below) ∙ sym (add-mul-mod_self_left (n % 256 + 256 * (q % p)) (256 * p) (q / p)) ∙ ap (λ (m : ℕ). m % (256 * p)) whole

-- the number of the bytes that are written for a number
pub number_written : (k n : ℕ) → number (bytes_of k n) ≡ n % 256 ^ k
unfolding number bytes_of
number_written zero n = rw pow-zero (sym (mod-one n))
number_written (suc k) n = rw (number_written k (n / 256), pow-succ') (rest_by_byte n (256 ^ k) (one-le-pow k 256 (omega arith)))

-- bytes are those that are written for their number
pub bytes_read : (s : List ℕ) → EachByte s → bytes_of (length s) (number s) ≡ s
bytes_read s h = bytes_number s (bytes_each s h)

pub bytes_below : (k n : ℕ) → EachByte (bytes_of k n)
bytes_below k n = byte_at (bytes_of k n) (bytes_bytes k n)
