-- Laws of `specs/HeaderLaws`.
use Prim.Native.Nat.{ℕ, ◌+◌, ◌*◌, ◌/◌, ◌%◌, ◌^◌, ◌<◌, ◌≤◌}
use mathlib.Core.Bool.{true, false, not, false≢true}
use mathlib.Core.List.{List, [], ◌∷◌, ◌++◌}
use mathlib.Core.Path.{◌≡◌, refl}
use native.Mathlib.Omega.{arith}
use borrow.Author.Tests.{ltb-true, ltb-false, lt-ltb, ne_eqb, not-false}
use lib.Dec.{ltb}
use lib.ListN.{length, take}
use lib.Seq.{length-take-le, take-add}
use Rattle.mbus_rules.specs.declared.Header.{Header}
use Rattle.base_rules.specs.Lists.{at, any}
use Rattle.base_digits.specs.Digits.{over_nine, digits_of, packed}
use Rattle.mbus_rules.specs.Headers.{header_of, letter, maker_named, heat_meter, wrong_header}
use Rattle.mbus_rules.specs.Writing.{bytes_of_header, unwritten_header}
use Rattle.base_rules.proofs.Laws.TestLaws.{none, every}
use Rattle.base_rules.specs.Bytes.{Bytes}
use Rattle.base_rules.proofs.Laws.ByteLaws.{byte_at, bytes_append, spell}
use Rattle.base_digits.proofs.Laws.DigitLaws.{packed_digits, digits_below, digits_packed, packed_right, bytes_packed}
use Rattle.mbus_rules.specs.HeaderSizes.{Fits}

-- ---- from bytes to a header and back

pub record HeaderRead (b : List ℕ) : Type 0 where
  pub back : bytes_of_header (header_of b) ≡ take 12 b
  pub written : unwritten_header (header_of b) ≡ false

pub header_read : (b : List ℕ) → 12 ≤ length b → Bytes b → wrong_header b ≡ false → HeaderRead b
unfolding wrong_header
header_read b e bytes h =
    let k = none (any over_nine (take 4 b))
    (not (maker_named (header_of b).maker) ∷ not (heat_meter (header_of b).meter_type) ∷ ltb 0 (at b 10) ∷ ltb 0 (at b 11) ∷ []) h in
    let four : length (take 4 b) ≡ 4 = length-take-le 4 b (omega arith) in
    let b₄ : at b 4 < 256 = byte_at b bytes 4 in
    let low : (256 * at b 5 + at b 4) % 256 ≡ at b 4 = omega arith in
    let high : (256 * at b 5 + at b 4) / 256 ≡ at b 5 = omega arith in
    let z₀ : at b 10 ≡ 0 = omega (arith, ltb-false) in
    let z₁ : at b 11 ≡ 0 = omega (arith, ltb-false) in
    let number : packed 4 (digits_of (take 4 b)) ≡ take 4 b = rw four at (packed_digits (take 4 b) k.0) in
    let below : digits_of (take 4 b) < 100 ^ 4 = rw four at (digits_below (take 4 b) k.0) in
    record {
      back = rw (take-add 4 8 b, spell 8 4 b (omega arith), z₀, z₁, low, high, number);
      written = rw (lt-ltb (digits_of (take 4 b)) 100000000 below, k.1.0, k.1.1.0);
    }

-- ---- from a header to bytes and back

pub header_length : (h : Header) → length (bytes_of_header h) ≡ 12
unfolding packed
header_length h = refl

pub record HeaderWritten (h : Header) (rest : List ℕ) : Type 0 where
  pub back : header_of (bytes_of_header h ++ rest) ≡ h
  pub right : wrong_header (bytes_of_header h ++ rest) ≡ false

pub header_written : (h : Header) (rest : List ℕ) → unwritten_header h ≡ false → HeaderWritten h rest
unfolding wrong_header packed
header_written h rest e =
    let k = none (not (ltb h.number 100000000)) (not (maker_named h.maker) ∷ not (heat_meter h.meter_type) ∷ []) e in
    let small : ltb h.number 100000000 ≡ true = not-false (ltb h.number 100000000) k.0 in
    let number : digits_of (packed 4 h.number) ≡ h.number = digits_packed 4 h.number (ltb-true h.number 100000000 small) in
    let maker : 256 * (h.maker / 256) + h.maker % 256 ≡ h.maker = omega arith in
    let right : any over_nine (packed 4 h.number) ≡ false = packed_right 4 h.number in
    record {
      back = λ i. record { number = number i; maker = maker i; version = h.version; meter_type = h.meter_type; access = h.access; status = h.status };
      right = rw (right, maker, k.1.0, k.1.1.0);
    }

pub header_fits : (b : List ℕ) → Bytes b → Fits (header_of b)
header_fits b h = record { version = byte_at b h 6; access = byte_at b h 8; status = byte_at b h 9 }

heat_below : (t : ℕ) → heat_meter t ≡ true → t < 256
heat_below t e =
    let no : 256 ≤ t → ⊥ = λ h. false≢true (rw (
      ne_eqb t 0x04 (omega arith),
      ne_eqb t 0x0B (omega arith),
      ne_eqb t 0x0C (omega arith),
      ne_eqb t 0x0D
          (omega arith),
    ) at e) in
    omega arith

pub header_bytes : (h : Header) → Fits h → unwritten_header h ≡ false → Bytes (bytes_of_header h)
header_bytes h f e =
    let k = none (not (ltb h.number 100000000)) (not (maker_named h.maker) ∷ not (heat_meter h.meter_type) ∷ []) e in
    let m = every (ltb h.maker 32768) (letter (h.maker / 1024) ∷ letter (h.maker / 32 % 32) ∷ letter (h.maker % 32) ∷ [])
    (not-false (maker_named h.maker) k.1.0) in
    let t : h.meter_type < 256 = heat_below h.meter_type (not-false (heat_meter h.meter_type) k.1.1.0) in
    bytes_append (packed 4 h.number) (h.maker % 256 ∷ h.maker / 256 ∷ h.version ∷ h.meter_type ∷ h.access ∷ h.status ∷ 0 ∷ 0 ∷ [])
    (bytes_packed 4 h.number) (omega (arith, ltb-true))
