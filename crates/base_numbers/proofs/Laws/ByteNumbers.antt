-- Numbers low byte first both ways, over the number of bytes.
use Prim.Native.Nat.{ℕ, zero, suc, ◌+◌, ◌*◌, ◌/◌, ◌%◌, ◌^◌, ◌<◌}
use mathlib.Core.List.{List, [], ◌∷◌}
use mathlib.Core.Path.{◌≡◌, refl, sym, ap}
use native.Mathlib.Nat.{pow-suc, pow-succ'}
use native.Mathlib.Omega.{arith}
use lib.Arith.{lt-one}
use lib.Dec.{lit<}
use lib.ListN.{length}
use Rattle.base_rules.specs.Bytes.{Bytes}
use Rattle.base_numbers.specs.Numbers.{number, bytes_of}

pub length_bytes : (k n : ℕ) → length (bytes_of k n) ≡ k
unfolding bytes_of
length_bytes zero n = refl
length_bytes (suc k) n = ap suc (length_bytes k (n / 256))

pub bytes_bytes : (k n : ℕ) → Bytes (bytes_of k n)
unfolding bytes_of
bytes_bytes zero n = tt
bytes_bytes (suc k) n = (omega arith, bytes_bytes k (n / 256))

-- a number that fits is read back from its bytes
pub number_bytes : (k n : ℕ) → n < 256 ^ k → number (bytes_of k n) ≡ n
unfolding number bytes_of
number_bytes zero n h = sym (lt-one h)
number_bytes (suc k) n h =
    let p : n < 256 ^ k * 256 = rw pow-suc at h in
    rw (number_bytes k (n / 256) (omega arith)) (omega arith)

-- bytes are those that are written for their number
pub bytes_number : (s : List ℕ) → Bytes s → bytes_of (length s) (number s) ≡ s
unfolding number bytes_of
bytes_number [] h = refl
bytes_number (b ∷ s) h =
    let low : (b + 256 * number s) % 256 ≡ b = omega (arith, h.0) in
    let high : (b + 256 * number s) / 256 ≡ number s = omega (arith, h.0) in
    rw (low, high) (ap (λ (r : List ℕ). b ∷ r) (bytes_number s h.1))

pub number_below : (s : List ℕ) → Bytes s → number s < 256 ^ length s
unfolding number
number_below [] h = lit< tt
number_below (b ∷ s) h =
    let r : number s < 256 ^ length s = number_below s h.1 in
    let p : 256 ^ suc (length s) ≡ 256 * 256 ^ length s = pow-succ' 256 (length s) in
    omega (arith, h.0)
