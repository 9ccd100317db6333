-- Two's complement both ways, once over the number of bytes.
use Prim.Native.Nat.{ℕ, zero, suc, ◌*◌, ◌-◌, ◌^◌, ◌<◌, ◌≤◌}
use mathlib.Core.Bool.{true, false}
use mathlib.Core.List.{List}
use mathlib.Core.Path.{◌≡◌, refl, ap, ◌∙◌}
use native.Mathlib.Omega.{arith}
use borrow.Author.Tests.{ltb-true, lt-ltb, leb-true, leb-false, le-leb, lt-leb}
use lib.IntN.{ℤ, pos, negsuc}
use lib.ListN.{length}
use Rattle.base_rules.specs.Bytes.{Bytes}
use Rattle.base_numbers.specs.Numbers.{number, bytes_of}
use Rattle.base_numbers.specs.TwosComplement.{below_zero, negative, binary_of, binary_bytes, fits_binary}
use Rattle.base_rules.proofs.Laws.Tests.{by_test}
use Rattle.base_numbers.proofs.Laws.ByteNumbers.{length_bytes, bytes_bytes, number_bytes, bytes_number, number_below}

-- what is read is written again
pub record BinaryRead (b : List ℕ) : Type 0 where
  pub back : binary_bytes (length b) (binary_of b) ≡ b
  pub fits : fits_binary (length b) (binary_of b) ≡ true
  pub sign : below_zero (binary_of b) ≡ negative b

pub binary_read : (b : List ℕ) → Bytes b → BinaryRead b
binary_read b bytes = by_test (negative b) below above
  where
    all : number b < 256 ^ length b
    all = number_below b bytes

    below : negative b ≡ true → BinaryRead b
    below m = go (256 ^ length b - number b) refl
      where
        half : 256 ^ length b ≤ 2 * number b
        half = leb-true (256 ^ length b) (2 * number b) m

        go : (n : ℕ) → 256 ^ length b - number b ≡ n → BinaryRead b
        go zero z = absurd (omega (arith, all))
        go (suc n) z =
            let same : 256 ^ length b - suc n ≡ number b = omega (arith, all) in
            let fit : 2 * suc n ≤ 256 ^ length b = omega (arith, all, half) in
            record {
              back = rw (m, z) (ap (bytes_of (length b)) same ∙ bytes_number b bytes);
              fits = rw (m, z) (le-leb (2 * suc n) (256 ^ length b) fit);
              sign = rw (m, z);
            }

    above : negative b ≡ false → BinaryRead b
    above m =
        let half : 2 * number b < 256 ^ length b = leb-false (256 ^ length b) (2 * number b) m in
        record {
          back = rw m (bytes_number b bytes);
          fits = rw m (lt-ltb (2 * number b) (256 ^ length b) half);
          sign = rw m;
        }

-- a number that fits, written, is read as itself
pub record BinaryWritten (w : ℕ) (z : ℤ) : Type 0 where
  pub back : binary_of (binary_bytes w z) ≡ z
  pub sign : negative (binary_bytes w z) ≡ below_zero z
  pub width : length (binary_bytes w z) ≡ w
  pub bytes : Bytes (binary_bytes w z)

pub binary_written : (w : ℕ) (z : ℤ) → fits_binary w z ≡ true → BinaryWritten w z
binary_written w (pos n) e =
    let h : 2 * n < 256 ^ w = ltb-true (2 * n) (256 ^ w) e in
    let size : length (bytes_of w n) ≡ w = length_bytes w n in
    let same : number (bytes_of w n) ≡ n = number_bytes w n (omega arith) in
    let sign : negative (bytes_of w n) ≡ false = rw (size, same) (lt-leb (256 ^ w) (2 * n) h) in
    record {
      back = rw (sign, same);
      sign = sign;
      width = size;
      bytes = bytes_bytes w n;
    }
binary_written w (negsuc n) e =
    let h : 2 * suc n ≤ 256 ^ w = leb-true (2 * suc n) (256 ^ w) e in
    let m : ℕ = 256 ^ w - suc n in
    let size : length (bytes_of w (256 ^ w - suc n)) ≡ w = length_bytes w (256 ^ w - suc n) in
    let same : number (bytes_of w (256 ^ w - suc n)) ≡ 256 ^ w - suc n = number_bytes w (256 ^ w - suc n) (omega arith) in
    let sign : negative (bytes_of w (256 ^ w - suc n)) ≡ true =
    rw (size, same) (le-leb (256 ^ w) (2 * (256 ^ w - suc n)) (omega arith)) in
    let left : 256 ^ w - (256 ^ w - suc n) ≡ suc n = omega arith in
    record {
      back = rw (sign, size, same, left);
      sign = sign;
      width = size;
      bytes = bytes_bytes w (256 ^ w - suc n);
    }
