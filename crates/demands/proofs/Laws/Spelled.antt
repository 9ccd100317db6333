-- Proofs of the statements of specs/Spelled.
use Prim.Native.Nat.{ℕ, ◌+◌, ◌-◌, ◌*◌, ◌/◌, ◌%◌, ◌^◌}
use native.Mathlib.Nat.{mod-eq_of_lt, div-eq_of_lt}
use native.Mathlib.Omega.{arith}
use mathlib.Core.Bool.{false, ◌&&◌, and-false}
use mathlib.Core.List.{List, [], ◌∷◌, ◌++◌, map}
use mathlib.Core.Path.{◌≡◌, refl, ap}
use borrow.Author.Tests.{eq-eqb, ne_eqb, eqb-true, le-leb, lt-leb, ltb-true}
use lib.Count.{ones_in}
use lib.Dec.{eqb, ltb}
use lib.ListN.{length}
use Rattle.base_rules.specs.Lists.{any, total}
use Rattle.base_rules.proofs.Laws.Tests.{by_test, below}
use Rattle.base_rules.proofs.Laws.TestLaws.{and_true_parts}
use Rattle.base_characters.specs.Characters.{odd, carrier, chars}
use Rattle.base_characters.specs.Flips.{Place, flip_bit, flips, outside, same_place, repeated}
use Rattle.base_digits.specs.Digits.{digits_of, packed}
use Rattle.base_numbers.specs.Numbers.{number, bytes_of}
use Rattle.text_filling.specs.Decimals.{digits_in, last_digit}
use Rattle.text_filling.proofs.Laws.DecimalLaws.{digits_next}
use Rattle.mbus_rules.specs.Entries.{may_fall, read_entries}
use Rattle.mbus_rules.specs.Headers.{wrong_header}
use Rattle.mbus_rules.specs.Lines.{read_body, read_line}
use Rattle.mbus_rules.specs.Moments.{wrong_moment}
use Rattle.mbus_rules.specs.Quantities.{quantity_of, width_of, paired}
use Rattle.mbus_rules.specs.Signs.{minus, size_bytes, marked}
use Rattle.mbus_rules.specs.Writing.{bytes_of_entries, line_of}
use Rattle.run_calendar.specs.Days.{interval}
use Rattle.cjt_energy.specs.Energies.{code_power, unit_for, entry_for}
use Rattle.demands.specs.Spelled.{OneBitTurned, InsideOf, Differ, EveryPlace, CarriedEven, PortMarks, NumbersLowFirst, CommandsSpelled, TimeSpelled}
use Rattle.demands.specs.Spelled.{DataSpelled, IntervalIs, EveryCodeTurned, TextSpelled, DecimalSpelled}

-- ---- flips

pub one_bit_turned : OneBitTurned
unfolding flips flip_bit
one_bit_turned = (λ s. refl, λ s p ps. refl)

not_outside : (s : List ℕ) (p : Place) → InsideOf s p → outside s p ≡ false
not_outside s p h = rw (lt-leb (length s) p.character h.0, lt-leb 9 p.bit h.1)

not_same : (p q : Place) → Differ p q → same_place p q ≡ false
not_same p q h =
    by_test (eqb p.character q.character)
    (λ e. rw (ne_eqb p.bit q.bit (h (eqb-true p.character q.character e))) (and-false (eqb p.character q.character)))
    (λ e. rw e)

pub every_place : EveryPlace
unfolding any repeated
every_place s p q r hp hq hr pq pr qr = (
  record { within = rw (not_outside s p hp); different = refl },
  record { within = rw (not_outside s p hp, not_outside s q hq); different = rw (not_same p q pq) },
  record {
    within = rw (not_outside s p hp, not_outside s q hq, not_outside s r hr);
    different = rw (not_same p q pq, not_same p r pr, not_same q r qr);
  },
)

-- ---- characters, numbers and digits

pub carried_even : CarriedEven
unfolding carrier ones_in
carried_even b h =
    let all = below 256 (λ (x : ℕ). ltb (carrier x) 512 && (eqb (carrier x % 256) x && eqb (ones_in 9 (carrier x) % 2) 0)) refl b h in
    let first = and_true_parts (ltb (carrier b) 512) (eqb (carrier b % 256) b && eqb (ones_in 9 (carrier b) % 2) 0) all in
    let rest = and_true_parts (eqb (carrier b % 256) b) (eqb (ones_in 9 (carrier b) % 2) 0) first.1 in
    (ltb-true (carrier b) 512 first.0, eqb-true (carrier b % 256) b rest.0, eqb-true (ones_in 9 (carrier b) % 2) 0 rest.1)

pub port_marks : PortMarks
unfolding odd
port_marks c = (
  λ e. rw (eq-eqb (ones_in 9 c % 2) 1 e),
  λ e f. rw (ne_eqb (ones_in 9 c % 2) 1 e, eq-eqb (c % 256) 0xFF f),
  λ e f. rw (ne_eqb (ones_in 9 c % 2) 1 e, ne_eqb (c % 256) 0xFF f),
)

pub numbers_low_first : NumbersLowFirst
unfolding chars number digits_of
numbers_low_first = (
  λ low high b. refl,
  refl,
  λ b s. refl,
  refl,
  λ b s. refl,
  refl,
  λ b h. rw (lt-leb (256 ^ length b) (2 * number b) h),
  λ b h. rw (le-leb (256 ^ length b) (2 * number b) h),
)

-- ---- lines

pub commands_spelled : CommandsSpelled
unfolding line_of total
commands_spelled = (
  refl,
  λ a. ap (λ (n : ℕ). map carrier (0x10 ∷ 0x5B ∷ a ∷ n % 256 ∷ 0x16 ∷ [])) (sum_of_two a),
  λ a s. ap (λ (n : ℕ). map carrier (0x68 ∷ 0x04 ∷ 0x04 ∷ 0x68 ∷ 0x53 ∷ a ∷ 0x50 ∷ s ∷ n % 256 ∷ 0x16 ∷ [])) (sum_of_four a s),
  λ a. ap (λ (n : ℕ). map carrier (0x68 ∷ 0x04 ∷ 0x04 ∷ 0x68 ∷ 0x53 ∷ a ∷ 0x50 ∷ 0x00 ∷ n % 256 ∷ 0x16 ∷ [])) (sum_of_three a),
)
  where
    sum_of_two : (a : ℕ) → 0x5B + (a + 0) ≡ 0x5B + a
    sum_of_two a = omega arith

    sum_of_four : (a s : ℕ) → 0x53 + (a + (0x50 + (s + 0))) ≡ 0x53 + a + 0x50 + s
    sum_of_four a s = omega arith

    sum_of_three : (a : ℕ) → 0x53 + (a + (0x50 + (0x00 + 0))) ≡ 0x53 + a + 0x50
    sum_of_three a = omega arith

pub time_spelled : TimeSpelled
time_spelled b₁ b₂ b₃ b₄ b₅ b₆ = refl

pub data_spelled : DataSpelled
unfolding line_of bytes_of_entries packed read_line read_body read_entries any total odd carrier ones_in wrong_header digits_of minus size_bytes marked wrong_moment
    quantity_of width_of paired may_fall number bytes_of
data_spelled = (refl, refl)

-- ---- times and energies

-- a day has 86,400,000 milliseconds
of_a_day : (d h m s : ℕ) → 86400000 * d + 1000 * (60 * (60 * h + m) + s) ≡ 1000 * (60 * (60 * (24 * d + h) + m) + s)
of_a_day d h m s = omega arith

pub interval_is : IntervalIs
unfolding interval
interval_is first last = simp of_a_day

pub every_code_turned : EveryCodeTurned
unfolding entry_for unit_for code_power
every_code_turned = (refl, refl, refl, refl, refl, refl, refl, refl, refl)

-- ---- texts

pub text_spelled : TextSpelled
text_spelled = refl

pub decimal_spelled : DecimalSpelled
unfolding digits_in
decimal_spelled = (λ n h. rw (div-eq_of_lt h, mod-eq_of_lt h), λ n h. ap (λ (l : List ℕ). l ++ last_digit n) (digits_next (n / 10) (omega arith)))
