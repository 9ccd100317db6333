-- What a wake-up is: the test for one, against the line that it is.
use Prim.Native.Nat.{ℕ, zero, suc}
use mathlib.Core.Bool.{false, not}
use mathlib.Core.List.{List, [], ◌∷◌}
use mathlib.Core.Path.{◌≡◌, refl, ap₂}
use borrow.Author.Tests.{le-ltb, ltb-false, not-true}
use lib.Dec.{ltb}
use lib.ListN.{length, replicate, length-replicate}
use Rattle.base_rules.specs.Lists.{any}
use Rattle.base_rules.proofs.Laws.Tests.{neither, not_different}
use Rattle.base_rules.proofs.Laws.TestLaws.{and_true_parts}
use Rattle.bench_clock.specs.Wakes.{wake_least, wake_most, outside_wake, no_wake, is_wake}
use Rattle.demands.specs.Wakes.{WakeUpsAreThese, TheseAreWakeUps}

-- a line of which every character is 055
all_so : (line : List ℕ) → any no_wake line ≡ false → line ≡ replicate (length line) 0x055
unfolding any
all_so [] e = refl
all_so (c ∷ line) e =
    let p = neither (no_wake c) (any no_wake line) e in
    ap₂ (λ (x : ℕ) (l : List ℕ). x ∷ l) (not_different c 0x055 p.0) (all_so line p.1)

pub wake_ups_are_these : WakeUpsAreThese
unfolding is_wake
wake_ups_are_these line e =
    let p = and_true_parts (not (outside_wake (length line))) (not (any no_wake line)) e in
    let q = neither (ltb (length line) wake_least) (ltb wake_most (length line)) (not-true _ p.0) in
    (length line, ltb-false _ _ q.0, ltb-false _ _ q.1, all_so line (not-true _ p.1))

none_other : (count : ℕ) → any no_wake (replicate count 0x055) ≡ false
unfolding any
none_other zero = refl
none_other (suc count) = none_other count

pub these_are_wake_ups : TheseAreWakeUps
unfolding is_wake
these_are_wake_ups count l m =
    rw (length-replicate {A = ℕ} count 0x055, le-ltb count wake_least l, le-ltb wake_most count m, none_other count)
