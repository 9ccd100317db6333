-- 02, 2026-01: the stretch that is handed back is the caller's own memory. 01: where it is refused, an empty one.
use Rattle.std.specs.Prelude.{ℕ, ◌+◌, ◌*◌, List, ◌≡◌, take, drop}
use Rattle.std.specs.Borrow.{Bor}
use Rattle.base_rules.specs.Answers.{Answer, reads, refusal}
use Rattle.base_rules.specs.Shown.{shown}
use Rattle.mbus_search.specs.declared.Spot.{Spot}
use Rattle.mbus_search.specs.Searching.{spot_at}
use Rattle.mbus_either.specs.declared.Interface.{Interface}
use Rattle.mbus_either.specs.declared.Interface.TheVariants.{Mbus, Optical}
use Rattle.mbus_either.specs.declared.Either.{Either}
use Rattle.mbus_either.specs.declared.LiveLine.{LiveLine}
use Rattle.mbus_either.specs.Interfaces.{live_on, find_either}

-- of the two captures, that of an interface
abbrev pub capture_of : {A : Type 0} → Interface → A → A → A
capture_of Mbus mbus optical = mbus
capture_of Optical mbus optical = optical

-- The part has the characters at the spot, and lies there in the memory of the whole. (A character takes two bytes of it.)
pub record PartAt (p : Spot) (whole part : Bor (List ℕ)) : Type 0 where
  pub characters : part.now ≡ take p.length (drop p.place whole.now)
  pub block : part.ref_ptr.0 ≡ whole.ref_ptr.0
  pub place : part.ref_ptr.1 ≡ whole.ref_ptr.1 + 2 * p.place

-- what is handed out: the line, and where it is refused nothing, of M-Bus
abbrev pub handed_out : Answer LiveLine → LiveLine
handed_out (reads l) = l
handed_out (refusal n) = live_on Mbus (spot_at 0 0)

abbrev pub StretchOf : Answer LiveLine → Bor (List ℕ) → Bor (List ℕ) → Bor (List ℕ) → Type 0
StretchOf a mbus optical part = PartAt (handed_out a).spot (capture_of (handed_out a).interface mbus optical) part

-- the whole answer: what was found, and the stretch
pub record HandsEither (mbus optical : Bor (List ℕ)) (r : Either) : Type 0 where
  pub answer : r.found ≡ shown (find_either mbus.now optical.now)
  pub stretch : StretchOf (find_either mbus.now optical.now) mbus optical r.stretch
