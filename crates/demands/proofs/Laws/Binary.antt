-- Proofs of the statements of specs/Binary.
use Prim.Native.Nat.{ℕ, ◌+◌, ◌%◌, zero-le}
use mathlib.Core.Bool.{false, not, ◌||◌, or-true}
use mathlib.Core.Path.{◌≡◌, refl, sym, ap₂, ◌∙◌}
use native.Mathlib.Nat.{sub-zero}
use native.Mathlib.Omega.{arith}
use borrow.Author.Tests.{eqb-true, le-ltb, not-true}
use lib.Count.{ones_in}
use lib.Dec.{eqb}
use Rattle.base_characters.specs.Characters.{odd, carrier}
use Rattle.base_numbers.specs.TwosComplement.{binary_bytes}
use Rattle.base_digits.specs.Digits.{digits_of, packed}
use Rattle.mbus_rules.specs.Entries.{may_fall, read_entries}
use Rattle.mbus_rules.specs.Headers.{wrong_header}
use Rattle.mbus_rules.specs.Lines.{read_body, read_line}
use Rattle.base_rules.specs.Lists.{any, total}
use Rattle.mbus_rules.specs.Moments.{wrong_moment}
use Rattle.base_numbers.specs.Numbers.{number, bytes_of}
use Rattle.mbus_rules.specs.Quantities.{row_of, quantity_of, unit_of, power_of, in_joules, width_of, paired, is_time, is_packed, is_binary, energy}
use Rattle.mbus_rules.specs.Signs.{minus}
use Rattle.mbus_rules.specs.Writing.{bytes_of_entries, line_of}
use Rattle.base_numbers.proofs.Laws.BinaryLaws.{binary_read, binary_written}
use Rattle.base_rules.proofs.Laws.Tests.{by_test, below}
use Rattle.demands.specs.Binary.{OneBinaryForm, EveryBinaryNumber, BinaryBounds, LowByteFirst, ShortestData, LongestData, EnergyTwice, TimeTakes06}
use Rattle.demands.specs.Binary.{NoStructure, Measured06, NegativeRefused, JoulesAreEnergy, DigitsAsBinary, BinaryAsDigits, BinaryPlaceIsUsed}

pub one_binary_form : OneBinaryForm
one_binary_form a b ha hb l e = sym (binary_read a ha).back ∙ ap₂ binary_bytes l e ∙ (binary_read b hb).back

pub every_binary_number : EveryBinaryNumber
every_binary_number w z f =
    let s = binary_written w z f in
    (s.back, s.width, s.sign)

pub binary_bounds : BinaryBounds
unfolding number bytes_of
binary_bounds = (
  (refl, refl, refl, refl),
  (
    (refl, refl, refl, refl),
    (
      (refl, refl, refl, refl),
      (
        (refl, refl, refl, refl),
        (
          (refl, refl, refl, refl),
          ((refl, refl, refl, refl), tt),
        ),
      ),
    ),
  ),
)

pub low_byte_first : LowByteFirst
unfolding number bytes_of
low_byte_first = (refl, refl, refl, refl)

pub shortest_data : ShortestData
unfolding read_line read_body read_entries any total odd carrier ones_in line_of wrong_header digits_of minus wrong_moment quantity_of width_of paired packed
    bytes_of_entries number bytes_of may_fall
shortest_data = (refl, refl)

pub longest_data : LongestData
unfolding read_line read_body read_entries any total odd carrier ones_in line_of wrong_header digits_of minus wrong_moment quantity_of width_of paired packed
    bytes_of_entries number bytes_of may_fall
longest_data = (refl, refl, refl)

pub energy_twice : EnergyTwice
unfolding read_line read_body read_entries any total odd carrier ones_in line_of wrong_header digits_of minus wrong_moment quantity_of width_of paired packed
    bytes_of_entries
energy_twice = refl

pub time_takes_06 : TimeTakes06
unfolding paired
time_takes_06 st e = eqb-true st 0x06 e

unpaired : (st u : ℕ) → eqb st 0x06 ≡ false → (is_packed st || is_binary st) ≡ false → paired st u ≡ false
unfolding paired
unpaired st u a b = by_test (is_time u) (λ t. rw (t, a)) (λ t. rw (t, b))

pub no_structure : NoStructure
no_structure = (
  λ u. unpaired 0x05 u refl refl,
  (
    λ u. unpaired 0x08 u refl refl,
    (
      λ u. unpaired 0x09 u refl refl,
      (
        λ u. unpaired 0x0D u refl refl,
        (λ u. unpaired 0x0F u refl refl, tt),
      ),
    ),
  ),
)

pub measured_06 : Measured06
unfolding paired quantity_of
measured_06 = refl

pub negative_refused : NegativeRefused
negative_refused st unit b t n = rw (t, n)

pub joules_are_energy : JoulesAreEnergy
unfolding quantity_of unit_of power_of
joules_are_energy n h =
    let low : (row_of (8 + n)).divisor ≡ 8 = eqb-true (row_of (8 + n)).divisor 8 (below 8 (λ k. eqb (row_of (8 + k)).divisor 8) refl n h) in
    let less : (row_of (8 + n)).less ≡ 0 = eqb-true (row_of (8 + n)).less 0 (below 8 (λ k. eqb (row_of (8 + k)).less 0) refl n h) in
    let rest : (8 + n) % 8 ≡ n = omega arith in (
      below 8 (λ k. in_joules (8 + k)) refl n h,
      not-true (in_joules n) (below 8 (λ k. not (in_joules k)) refl n h),
      eqb-true (quantity_of (8 + n)) energy (below 8 (λ k. eqb (quantity_of (8 + k)) energy) refl n h),
      rw (low, less, rest, le-ltb n 0 zero-le, sub-zero),
    )

pub digits_as_binary : DigitsAsBinary
digits_as_binary st unit d n = rw (n, or-true (is_time unit))

pub binary_as_digits : BinaryAsDigits
binary_as_digits st unit w n = rw (n, or-true (is_time unit))

pub binary_place_is_used : BinaryPlaceIsUsed
binary_place_is_used z = refl
