-- The length of a line by its first characters, and the first line after a time, for C.
use Rattle.std.specs.Prelude.{ℕ, ◌+◌, List, [], ◌∷◌, ◌≡◌}
use Rattle.base_rules.specs.Answers.{Answer}
use Rattle.mbus_length.specs.declared.HowLong.{HowLong}
use Rattle.mbus_length.specs.declared.HowLong.TheVariants.{Known, NotYet, NoLine}
use Rattle.mbus_after.specs.declared.TimedSpot.{TimedSpot}
use Rattle.mbus_after.specs.After.{find_after}
use Rattle.base_numbers.specs.Records.{words_of}
use Rattle.base_lent.specs.Lent.{done, placed, Leaves}

-- 0 where the length is known, 1 where it is not yet, or 256 plus 18
abbrev pub length_number : HowLong → ℕ
length_number (Known n) = 0
length_number NotYet = 1
length_number NoLine = 256 + 18

-- the length in its place, or what was there
abbrev pub length_left : HowLong → ℕ → ℕ
length_left (Known n) before = n
length_left NotYet before = before
length_left NoLine before = before

pub record TellsLength (w : HowLong) (before after r : ℕ) : Type 0 where
  pub answer : r ≡ length_number w
  pub left : after ≡ length_left w before

-- The record of a place with its time: three numbers of eight bytes.
abbrev pub timed_bytes : TimedSpot → List ℕ
timed_bytes p = words_of (p.spot.place ∷ p.spot.length ∷ p.time ∷ [])

-- 18, then 21
abbrev pub after_for : ℕ → List ℕ → List ℕ → List ℕ → Answer TimedSpot
after_for t capture times out = placed 24 out (find_after t capture times)

-- 0, and place, length and time in the first places; or 256 plus the refusal number, and all as it was.
abbrev pub FindsAfter : ℕ → List ℕ → List ℕ → List ℕ → List ℕ → ℕ → Type 0
FindsAfter t capture times before after r = Leaves done timed_bytes (after_for t capture times before) before after r
