-- 01, "Refusal numbers", 50 to 62: the gap behind a wake-up, the wake-up as it is written, and the error of indication. Of each the cases below are all
-- that there are.
use Rattle.std.specs.Prelude.{ℕ, ◌+◌, ◌-◌, ◌<◌, ◌≤◌, List, ◌++◌, ◌⊎◌, ◌≡◌, ℤ, pos, neg_ℤ, ◌-ℤ◌, ◌*ℤ◌, length, drop, replicate}
use Rattle.base_rules.specs.Answers.{reads, refusal}
use Rattle.base_numbers.specs.Rounding.{Nearest}
use Rattle.base_lent.specs.Lent.{stored}
use Rattle.bench_clock.specs.Gaps.{gap_of}
use Rattle.bench_clock.specs.Wakes.{wake_line, wake_of}
use Rattle.bench_indication.specs.Errors.{indication_of}

-- ---- the gap

-- 50: the command begins less than 33 after the wake-up's end, or before it;
abbrev pub GapTooShort : Type 0
GapTooShort = (ended begins : ℕ) → begins < ended + 33 → gap_of ended begins ≡ refusal 50

-- 51: more than 330 after;
abbrev pub GapTooLong : Type 0
GapTooLong = (ended begins : ℕ) → ended + 330 < begins → gap_of ended begins ≡ refusal 51

-- and else it is right.
abbrev pub GapRight : Type 0
GapRight = (ended begins : ℕ) → ended + 33 ≤ begins → begins ≤ ended + 330 → gap_of ended begins ≡ reads tt

-- ---- a wake-up

-- 52: the count is outside 459–502;
abbrev pub WakeRefused : Type 0
WakeRefused = (count : ℕ) (out : List ℕ) → (count < 459) ⊎ (502 < count) → wake_of count out ≡ refusal 52

-- then 21: there are fewer places than characters;
abbrev pub WakeWithoutRoom : Type 0
WakeWithoutRoom = (count : ℕ) (out : List ℕ) → 459 ≤ count → count ≤ 502 → length out < count → wake_of count out ≡ refusal 21

-- and else so many characters 55 with parity 0 stand in the first places, and nothing beyond changes.
abbrev pub WakeWritten : Type 0
WakeWritten =
    (count : ℕ) (out : List ℕ) → 459 ≤ count → count ≤ 502 → count ≤ length out
    → (wake_of count out ≡ reads count) × (stored wake_line out (wake_of count out) ≡ replicate count 0x055 ++ drop count out)

-- ---- the error of indication

-- 60: a count over 10^12, whichever of the four;
abbrev pub AnyCountOver : Type 0
AnyCountOver =
    (m1 m2 s1 s2 : ℕ) → (1000000000000 < m1) ⊎ ((1000000000000 < m2) ⊎ ((1000000000000 < s1) ⊎ (1000000000000 < s2)))
    → indication_of m1 m2 s1 s2 ≡ refusal 60

-- no count is over 10^12
pub record CountsFit (m1 m2 s1 s2 : ℕ) : Type 0 where
  pub meter_first : m1 ≤ 1000000000000
  pub meter_last : m2 ≤ 1000000000000
  pub standard_first : s1 ≤ 1000000000000
  pub standard_last : s2 ≤ 1000000000000

-- then 61: the meter count falls;
abbrev pub CountFalls : Type 0
CountFalls = (m1 m2 s1 s2 : ℕ) → CountsFit m1 m2 s1 s2 → m2 < m1 → indication_of m1 m2 s1 s2 ≡ refusal 61

-- then 62: the standard's count does not rise;
abbrev pub StandardNotRising : Type 0
StandardNotRising = (m1 m2 s1 s2 : ℕ) → CountsFit m1 m2 s1 s2 → m1 ≤ m2 → s2 ≤ s1 → indication_of m1 m2 s1 s2 ≡ refusal 62

-- and else an error in tenths of a percent: no integer is nearer to 1000 times ((M2−M1) − (S2−S1)) divided by (S2−S1), and of two as near it is the one
-- farther from zero.
abbrev pub ErrorGiven : Type 0
ErrorGiven =
    (m1 m2 s1 s2 : ℕ) → CountsFit m1 m2 s1 s2 → m1 ≤ m2 → s1 < s2
    → (e : ℤ) × (indication_of m1 m2 s1 s2 ≡ reads e) × Nearest (pos 1000 *ℤ ((pos m2 -ℤ pos m1) -ℤ (pos s2 -ℤ pos s1))) (s2 - s1) e

-- Rises of 10,000 against 10,100 and 10,100 against 10,000, every count another; the largest counts of all.
abbrev pub ErrorValues : Type 0
ErrorValues =
    (indication_of 7 10007 20 10120 ≡ reads (neg_ℤ (pos 10)))
    × (indication_of 20 10120 7 10007 ≡ reads (pos 10))
    × (indication_of 0 1000000000000 999999999999 1000000000000 ≡ reads (pos 999999999999000))
