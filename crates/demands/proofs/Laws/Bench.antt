-- Proofs of the statements of specs/Bench.
use Prim.Native.Nat.{ℕ, ◌-◌, ◌<◌}
use mathlib.Core.Bool.{Bool, true, false, or-true, ◌||◌}
use mathlib.Core.Logic.{◌⊎◌, inl, inr, ⊎_elim}
use mathlib.Core.Path.{◌≡◌, refl}
use native.Mathlib.Omega.{arith}
use borrow.Author.Tests.{lt-ltb, le-ltb, le-leb, lt-leb}
use lib.Dec.{ltb}
use lib.ListN.{length, length-replicate}
use Rattle.base_rules.proofs.Laws.Tests.{by_test}
use Rattle.bench_clock.specs.Times.{gap_least, gap_most}
use Rattle.bench_clock.specs.Wakes.{wake_least, wake_most}
use Rattle.bench_indication.specs.Errors.{count_most, count_over, error_of}
use Rattle.bench_indication.proofs.Laws.Errors.{error_nearest}
use Rattle.demands.specs.Bench.{GapTooShort, GapTooLong, GapRight, WakeRefused, WakeWithoutRoom, WakeWritten, AnyCountOver, CountsFit, CountFalls}
use Rattle.demands.specs.Bench.{StandardNotRising, ErrorGiven, ErrorValues}

pub gap_too_short : GapTooShort
gap_too_short ended begins h =
    by_test (ltb begins ended)
    (λ e. rw e)
    (λ e. rw (e, lt-ltb (begins - ended) gap_least (omega arith)))

pub gap_too_long : GapTooLong
gap_too_long ended begins h =
    rw (le-ltb begins ended (omega arith), le-ltb (begins - ended) gap_least (omega arith), lt-ltb gap_most (begins - ended) (omega arith))

pub gap_right : GapRight
gap_right ended begins h k =
    rw (le-ltb begins ended (omega arith), le-ltb (begins - ended) gap_least (omega arith), le-ltb gap_most (begins - ended) (omega arith))

pub wake_refused : WakeRefused
wake_refused count out (inl h) = rw (lt-ltb count wake_least h)
wake_refused count out (inr h) = rw (le-ltb count wake_least (omega arith), lt-ltb wake_most count h)

pub wake_without_room : WakeWithoutRoom
wake_without_room count out l m h = rw (le-ltb count wake_least l, le-ltb wake_most count m, lt-ltb (length out) count h)

pub wake_written : WakeWritten
wake_written count out l m h = (
  rw (le-ltb count wake_least l, le-ltb wake_most count m, le-ltb (length out) count h),
  rw (le-ltb count wake_least l, le-ltb wake_most count m, le-ltb (length out) count h, length-replicate {A = ℕ} count 0x055),
)

-- a test that holds among four
pub first_of : (a b c d : Bool) → a ≡ true → a || b || c || d ≡ true
first_of a b c d e = rw e

pub second_of : (a b c d : Bool) → b ≡ true → a || b || c || d ≡ true
second_of a b c d e = rw (e, or-true a)

pub third_of : (a b c d : Bool) → c ≡ true → a || b || c || d ≡ true
third_of a b c d e = rw (e, or-true (a || b))

pub fourth_of : (a b c d : Bool) → d ≡ true → a || b || c || d ≡ true
fourth_of a b c d e = rw (e, or-true (a || b || c))

is_over : (m1 m2 s1 s2 : ℕ) → (count_most < m1) ⊎ ((count_most < m2) ⊎ ((count_most < s1) ⊎ (count_most < s2))) → count_over m1 m2 s1 s2 ≡ true
is_over m1 m2 s1 s2 h =
    ⊎_elim (λ x. first_of _ _ _ _ (lt-ltb count_most m1 x))
    (⊎_elim (λ x. second_of (ltb count_most m1) _ _ _ (lt-ltb count_most m2 x))
    (⊎_elim (λ x. third_of (ltb count_most m1) (ltb count_most m2) _ _ (lt-ltb count_most s1 x))
    (λ x. fourth_of (ltb count_most m1) (ltb count_most m2) (ltb count_most s1) _ (lt-ltb count_most s2 x))))
    h

pub any_count_over : AnyCountOver
any_count_over m1 m2 s1 s2 h = rw (is_over m1 m2 s1 s2 h)

none_over : (m1 m2 s1 s2 : ℕ) → CountsFit m1 m2 s1 s2 → count_over m1 m2 s1 s2 ≡ false
none_over m1 m2 s1 s2 f =
    rw (
      le-ltb count_most m1 f.meter_first,
      le-ltb count_most m2 f.meter_last,
      le-ltb count_most s1 f.standard_first,
      le-ltb count_most s2 f.standard_last,
    )

pub count_falls : CountFalls
count_falls m1 m2 s1 s2 f h = rw (none_over m1 m2 s1 s2 f, lt-ltb m2 m1 h)

pub standard_not_rising : StandardNotRising
standard_not_rising m1 m2 s1 s2 f h k = rw (none_over m1 m2 s1 s2 f, le-ltb m2 m1 h, le-leb s2 s1 k)

pub error_given : ErrorGiven
error_given m1 m2 s1 s2 f h k =
    (error_of m1 m2 s1 s2, rw (none_over m1 m2 s1 s2 f, le-ltb m2 m1 h, lt-leb s2 s1 k), error_nearest m1 m2 s1 s2 k)

pub error_values : ErrorValues
unfolding error_of
error_values = (refl, refl, refl)
