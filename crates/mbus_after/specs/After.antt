-- Of a capture whose characters have the times at which they began: the lowest place at which an accepted line begins whose first character
-- began at or after t, with its length and that time; 18 where none begins. A character without a time began never.
use Rattle.std.specs.Prelude.{ℕ, ◌+◌, ◌≤◌, ◌<◌, Bool, cond, ◌&&◌, List, [], ◌∷◌, ltb, leb, length, drop}
use Rattle.base_rules.specs.Answers.{Answer, reads, refusal}
use Rattle.base_rules.specs.Lists.{at}
use Rattle.mbus_search.specs.declared.Spot.{Spot}
use Rattle.mbus_search.specs.Searching.{Begins, length_here, find_in, moved_by}
use Rattle.mbus_after.specs.declared.TimedSpot.{TimedSpot}

-- an accepted line begins at the place, with the length, and its first character began at or after t
pub record BeginsAfter (t : ℕ) (s times : List ℕ) (place n : ℕ) : Type 0 where
  pub begins : Begins s place n
  pub timed : place < length times
  pub since : t ≤ at times place

-- where a line was found, and when it began
abbrev pub timed_at : ℕ → ℕ → ℕ → TimedSpot
timed_at place n time = record { spot = record { place = place; length = n }; time = time }

-- so many places further on
abbrev pub moved_timed : ℕ → Answer TimedSpot → Answer TimedSpot
moved_timed k (refusal n) = refusal n
moved_timed k (reads p) = reads (timed_at (k + p.spot.place) p.spot.length p.time)

-- a line that begins here and began at or after t comes first
abbrev pub or_later : Answer ℕ → ℕ → Answer TimedSpot → Answer TimedSpot
or_later (refusal n) time others = others
or_later (reads n) time others = reads (timed_at 0 n time)

unfoldable pub find_after : ℕ → List ℕ → List ℕ → Answer TimedSpot
find_after t [] times = refusal 18
find_after t (c ∷ s) [] = refusal 18
find_after t (c ∷ s) (time ∷ times) =
    or_later (cond (leb t time) (length_here (c ∷ s)) (refusal 18)) time (moved_timed 1 (find_after t s times))

-- ---- the steps of the search

-- how many of the first times are before t
unfoldable pub early_first : ℕ → List ℕ → ℕ
early_first t [] = 0
early_first t (time ∷ times) = cond (leb t time) 0 (1 + early_first t times)

-- the character at the place has a time, which is not before t
abbrev pub began_since : ℕ → ℕ → List ℕ → Bool
began_since t place times = ltb place (length times) && leb t (at times place)

-- the first accepted line from a place on
abbrev pub find_from : ℕ → List ℕ → Answer Spot
find_from place s = moved_by place (find_in (drop place s))
