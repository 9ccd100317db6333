-- Laws about characters: by one test that is computed for all 512 of them, and of a bit turned over.
use Rattle.std.proofs.Common.{◌≡◌, ℕ, zero, suc, ◌+◌, ◌-◌, ◌*◌, ◌/◌, ◌%◌, ◌^◌, ◌<◌, ◌≤◌, Bool, true, false, cond, not, ◌&&◌, eqb, ◌⊎◌, List, [], ◌∷◌, map, length, sym, refl, ap, ◌∙◌, ap₂, inl, inr, le_of_suc-le-suc, mod-lt, mod-eq_of_lt, add-one, arith, lit<, pow_pos, pow-add, ltb-false, le-ltb, eqb-true}
use native.Mathlib.Nat.{mod-add-mod}
use mathlib.Core.Bool.{and-eq-true_iff}
use lib.Bits.{bit_xor, bit_and, xor_add_and, xor_shr, xor_lt, and_high}
use lib.Count.{ones_in}
use lib.Pow.{pow-lt, mod-mod-pow, field}
use borrow.Author.Tests.{not-true}
use Rattle.base_characters.specs.Characters.{over, byte_of, odd, carrier}
use Rattle.base_rules.proofs.Laws.Tests.{every_below, below}
use Rattle.base_characters.specs.Flips.{flip_bit}
use lib.ListN.{get_or-map, get_or-eq_default}
use Rattle.base_rules.specs.Lists.{at, any}
use Rattle.base_rules.specs.Bytes.{Bytes}
use Rattle.base_rules.proofs.Laws.TestLaws.{none}

-- ---- the 512 characters

-- the character of a byte with a given parity: the carrier, or the carrier with its parity bit turned over
with_parity : Bool → ℕ → ℕ
with_parity isOdd b = cond isOdd (flip_bit 8 (carrier b)) (carrier b)

-- the computed test: byte and parity give the character back, and the carrier's parity is even
known : ℕ → Bool
known c = eqb c (with_parity (odd c) (byte_of c)) && not (odd (carrier (byte_of c)))

all_known : every_below 512 known ≡ true
unfolding known with_parity flip_bit carrier odd ones_in
all_known = refl

both_known : (c : ℕ) → c ≤ 511 → (c ≡ with_parity (odd c) (byte_of c)) × (odd (carrier (byte_of c)) ≡ false)
unfolding known
both_known c h =
    let passes = below 512 known all_known c (omega arith) in
    let both = (and-eq-true_iff (eqb c (with_parity (odd c) (byte_of c))) (not (odd (carrier (byte_of c))))).0 passes in
    (eqb-true _ _ both.0, not-true _ both.1)

-- Byte and parity settle a character.
pub same_character : (c d : ℕ) → c ≤ 511 → d ≤ 511 → byte_of c ≡ byte_of d → odd c ≡ odd d → c ≡ d
same_character c d hc hd b o = (both_known c hc).0 ∙ rw (b, o) (sym (both_known d hd).0)

-- A character of even parity is the carrier of its byte.
pub carrier_byte : (c : ℕ) → c ≤ 511 → odd c ≡ false → carrier (byte_of c) ≡ c
unfolding with_parity
carrier_byte c h e = sym ((both_known c h).0 ∙ rw e)

pub byte_carrier : (b : ℕ) → b < 256 → byte_of (carrier b) ≡ b
unfolding carrier
byte_carrier b h = omega arith

pub carrier_even : (b : ℕ) → b < 256 → odd (carrier b) ≡ false
carrier_even b h = rw (mod-eq_of_lt h) at (both_known b (omega arith)).1

pub carrier_in_range : (b : ℕ) → b < 256 → over (carrier b) ≡ false
unfolding carrier
carrier_in_range b h = le-ltb 511 (carrier b) (omega arith)

-- ---- a bit turned over

-- The ones of the low bits do not depend on the bits above them.
pub ones_low : (d n : ℕ) → ones_in d (n % 2 ^ d) ≡ ones_in d n
unfolding ones_in
ones_low zero n = refl
ones_low (suc d) n =
    let low : n % 2 ^ suc d % 2 ≡ n % 2 = rw add-one at (mod-mod-pow n d 1) in
    let high : n % 2 ^ suc d / 2 ≡ n / 2 % 2 ^ d = rw add-one at (field n d 1) in
    rw (low, high, ones_low d (n / 2))

digit_sum : (x y a b : ℕ) → x + y * 2 ≡ a + b → x % 2 ≡ (a % 2 + b % 2) % 2
digit_sum x y a b e = omega arith

regroup : (x z a b m n : ℕ) → x ≡ (a + b) % 2 → z % 2 ≡ (m + n) % 2 → (x + z) % 2 ≡ (a + m + (b + n)) % 2
regroup x z a b m n p q = omega arith

ones_xor : (d a b : ℕ) → ones_in d (bit_xor a b) % 2 ≡ (ones_in d a + ones_in d b) % 2
unfolding ones_in
ones_xor zero a b = refl
ones_xor (suc d) a b =
    rw (xor_shr a b 1)
    (regroup (bit_xor a b % 2) (ones_in d (bit_xor (a / 2) (b / 2))) (a % 2) (b % 2) (ones_in d (a / 2)) (ones_in d (b / 2))
    (digit_sum (bit_xor a b) (bit_and a b) a b (xor_add_and a b)) (ones_xor d (a / 2) (b / 2)))

one_one : every_below 9 (λ k. eqb (ones_in 9 (2 ^ k)) 1) ≡ true
unfolding ones_in
one_one = refl

-- One bit turned over turns the parity over.
pub flip_ones : (k c : ℕ) → k < 9 → ones_in 9 (flip_bit k c) % 2 ≡ (ones_in 9 c + 1) % 2
unfolding flip_bit
flip_ones k c h =
    let one : ones_in 9 (2 ^ k) ≡ 1 = eqb-true _ _ (below 9 (λ k. eqb (ones_in 9 (2 ^ k)) 1) one_one k h) in
    rw one at (ones_xor 9 c (2 ^ k))

turned : (d : ℕ) → d < 2 → eqb ((d + 1) % 2) 1 ≡ not (eqb d 1)
turned zero h = refl
turned (suc zero) h = refl
turned (suc (suc d)) h = absurd (omega arith)

pub flip_odd : (k c : ℕ) → k < 9 → odd (flip_bit k c) ≡ not (odd c)
unfolding odd
flip_odd k c h = rw (flip_ones k c h, ← mod-add-mod (ones_in 9 c) 2 1) (turned (ones_in 9 c % 2) (omega arith))

pub flip_in_range : (k c : ℕ) → k < 9 → c ≤ 511 → flip_bit k c ≤ 511
unfolding flip_bit
flip_in_range k c h l = le_of_suc-le-suc (xor_lt 9 c (2 ^ k) (omega arith) (pow-lt h))

moved : (x c w d : ℕ) → d < 2 → x + d * w * 2 ≡ c + w → (x ≡ c + w) ⊎ (x + w ≡ c)
moved x c w zero h e = inl (omega arith)
moved x c w (suc zero) h e = inr (omega arith)
moved x c w (suc (suc d)) h e = absurd (omega arith)

-- It adds the bit's weight or takes it away.
pub flip_moves : (k c : ℕ) → (flip_bit k c ≡ c + 2 ^ k) ⊎ (flip_bit k c + 2 ^ k ≡ c)
unfolding flip_bit
flip_moves k c =
    let mask : 2 ^ (1 + k) - 2 ^ k ≡ 2 ^ k = omega (arith, pow-add 2 1 k) in
    let bit : bit_and c (2 ^ k) ≡ (c / 2 ^ k % 2) * 2 ^ k = rw mask at (and_high c 1 k) in
    moved (bit_xor c (2 ^ k)) c (2 ^ k) (c / 2 ^ k % 2) (mod-lt (c / 2 ^ k) (lit< tt)) (rw bit at (xor_add_and c (2 ^ k)))

there_and_back : (c d v w : ℕ) → zero < v → (d ≡ c + w) ⊎ (d + w ≡ c) → (c ≡ d + v) ⊎ (c + v ≡ d) → v ≡ w
there_and_back c d v w h (inl p) (inl q) = absurd (omega arith)
there_and_back c d v w h (inl p) (inr q) = omega arith
there_and_back c d v w h (inr p) (inl q) = omega arith
there_and_back c d v w h (inr p) (inr q) = absurd (omega arith)

weights : (j k : ℕ) → 2 ^ j ≡ 2 ^ k → j ≡ k
weights zero zero e = refl
weights zero (suc k) e = absurd (omega (arith, pow_pos k))
weights (suc j) zero e = absurd (omega (arith, pow_pos j))
weights (suc j) (suc k) e = ap suc (weights j k (omega arith))

-- Two bits turned over that give the old character back are one and the same.
pub flip_twice : (j k c : ℕ) → flip_bit j (flip_bit k c) ≡ c → j ≡ k
flip_twice j k c e =
    let back = rw e at (flip_moves j (flip_bit k c)) in
    weights j k (there_and_back c (flip_bit k c) (2 ^ j) (2 ^ k) (pow_pos j) (flip_moves k c) back)

-- the byte at a place is the byte of the character there
pub at_bytes : (s : List ℕ) (i : ℕ) → at (map byte_of s) i ≡ byte_of (at s i)
at_bytes s i = get_or-map byte_of s i 0

pub at_bytes_end : (s : List ℕ) (i : ℕ) → length s ≤ i → at (map byte_of s) i ≡ 0
at_bytes_end s i h = at_bytes s i ∙ ap byte_of (get_or-eq_default s 0 h)

-- the bytes of a line are bytes
pub bytes_of_lem : (s : List ℕ) → Bytes (map byte_of s)
bytes_of_lem [] = tt
bytes_of_lem (c ∷ s) = (omega arith, bytes_of_lem s)

pub even_line : (s : List ℕ) → any over s ≡ false → any odd s ≡ false → s ≡ map carrier (map byte_of s)
unfolding any
even_line [] h k = refl
even_line (c ∷ s) h k =
    let p = none (over c) (any over s ∷ []) h in
    let q = none (odd c) (any odd s ∷ []) k in
    ap₂ (λ (x : ℕ) (l : List ℕ). x ∷ l) (sym (carrier_byte c (ltb-false 511 c p.0) q.0)) (even_line s p.1.0 q.1.0)

pub record Carried (b : List ℕ) : Type 0 where
  pub range : any over (map carrier b) ≡ false
  pub even : any odd (map carrier b) ≡ false
  pub back : map byte_of (map carrier b) ≡ b

pub carried : (b : List ℕ) → Bytes b → Carried b
unfolding any
carried [] h = record { range = refl; even = refl; back = refl }
carried (x ∷ b) h =
    let r : Carried b = carried b h.1 in
    record {
      range = rw (carrier_in_range x h.0) r.range;
      even = rw (carrier_even x h.0) r.even;
      back = ap₂ (λ (y : ℕ) (l : List ℕ). y ∷ l) (byte_carrier x h.0) r.back;
    }

-- ---- from an accepted line to the line that is written
