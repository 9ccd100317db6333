-- The line that a send may count: the lowest place of a capture at which an accepted line begins whose first character began at or after t.
use Rattle.std.specs.Prelude.{ℕ, ◌≤◌, false, List, [], ◌∷◌, ◌++◌, ◌≡◌, leb, length}
use Rattle.base_rules.specs.Lists.{at, any}
use Rattle.base_rules.specs.Answers.{reads, refusal, within}
use Rattle.mbus_search.specs.Searching.{Begins, find_in}
use Rattle.mbus_after.specs.declared.TimedSpot.{TimedSpot}
use Rattle.mbus_after.specs.After.{BeginsAfter, timed_at, moved_timed, find_after}

-- What is found is an accepted line of the capture,
abbrev pub FoundSinceIsAccepted : Type 0
FoundSinceIsAccepted = (t : ℕ) (s times : List ℕ) (p : TimedSpot) → find_after t s times ≡ reads p → Begins s p.spot.place p.spot.length

-- its first character began at or after t,
abbrev pub FoundBeganSince : Type 0
FoundBeganSince =
    (t : ℕ) (s times : List ℕ) (p : TimedSpot) → find_after t s times ≡ reads p
    → (p.time ≡ at times p.spot.place) × (t ≤ at times p.spot.place)

-- and no such line begins before it.
abbrev pub FoundSinceIsLowest : Type 0
FoundSinceIsLowest =
    (t : ℕ) (s times : List ℕ) (p : TimedSpot) (place n : ℕ) → find_after t s times ≡ reads p → BeginsAfter t s times place n
    → p.spot.place ≤ place

-- Wherever such a line begins, one is found, there or before.
abbrev pub LineSinceIsFound : Type 0
LineSinceIsFound =
    (t : ℕ) (s times : List ℕ) (place n : ℕ) → BeginsAfter t s times place n
    → (p : TimedSpot) × (find_after t s times ≡ reads p) × (p.spot.place ≤ place)

-- Only one length is possible at a place.
abbrev pub OnlyLengthSince : Type 0
OnlyLengthSince = (t : ℕ) (s times : List ℕ) (place m n : ℕ) → BeginsAfter t s times place m → BeginsAfter t s times place n → m ≡ n

-- A refusal means that no such line begins anywhere. (`Refusals`: its number is 18.)
abbrev pub NoneBeginsSince : Type 0
NoneBeginsSince = (t : ℕ) (s times : List ℕ) (k place n : ℕ) → find_after t s times ≡ refusal k → BeginsAfter t s times place n → ⊥

-- From 0 on, with a time for each character, it is the search.
abbrev pub FromZeroIsTheSearch : Type 0
FromZeroIsTheSearch = (s times : List ℕ) → length s ≤ length times → within (λ (p : TimedSpot). p.spot) (find_after 0 s times) ≡ find_in s

-- Characters in front that began before t, an answer left in a buffer among them, change nothing but the place.
abbrev pub OldIsPassedOver : Type 0
OldIsPassedOver =
    (t : ℕ) (old s before times : List ℕ) → length old ≡ length before → any (leb t) before ≡ false
    → find_after t (old ++ s) (before ++ times) ≡ moved_timed (length old) (find_after t s times)

-- An ack left over and noise are passed over; times that fall; a character without a time begins no line; none from a time on.
abbrev pub AfterValues : Type 0
AfterValues =
    (find_after 100 (0x1E5 ∷ 0 ∷ 0x1E5 ∷ []) (40 ∷ 100 ∷ 111 ∷ []) ≡ reads (timed_at 2 1 111))
    × (find_after 100 (0x1E5 ∷ 0x1E5 ∷ 0x1E5 ∷ []) (99 ∷ 100 ∷ 0 ∷ []) ≡ reads (timed_at 1 1 100))
    × (find_after 0 (0 ∷ 0x1E5 ∷ []) (0 ∷ []) ≡ refusal 18)
    × (find_after 100 (0x1E5 ∷ 0x1E5 ∷ []) (98 ∷ 99 ∷ []) ≡ refusal 18)
