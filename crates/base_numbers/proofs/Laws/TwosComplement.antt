-- Numbers in two's complement, as the code makes and takes them.
use Prim.Native.Nat.{ℕ, suc, ◌-◌, ◌^◌, ◌<◌, ◌≤◌}
use mathlib.Core.Path.{◌≡◌, refl, ap}
use native.Mathlib.Omega.{arith}
use borrow.Author.Tests.{lt-ltb, le-ltb}
use lib.IntN.{ℤ, pos, negsuc}
use mir.Syntax.{w64}
use mir.Val.{to_z, of_z}
use Rattle.base_numbers.specs.TwosComplement.{binary_bytes}
use Rattle.base_numbers.specs.Numbers.{bytes_of}

-- the bytes of a number's word are the number in eight bytes of binary
pub word_bytes : (z : ℤ) → bytes_of 8 (of_z w64 z) ≡ binary_bytes 8 z
word_bytes (pos n) = refl
word_bytes (negsuc n) = refl

-- a word, by whether it is at least half of all
pub count_above : (n : ℕ) → n < 2 ^ 63 → pos n ≡ to_z w64 n
count_above n h = rw (lt-ltb n (2 ^ 63) h)

pub count_below : (n : ℕ) → 2 ^ 63 ≤ n → negsuc (0xFFFFFFFFFFFFFFFF - n) ≡ to_z w64 n
count_below n h =
    let same : 0xFFFFFFFFFFFFFFFF - n ≡ 2 ^ 64 - suc n = omega arith in
    rw (le-ltb n (2 ^ 63) h) (ap negsuc same)
