-- 02, 2026-01, "Both interfaces on one position": what holds of the stretch that is handed back, and of the capture that is passed over.
use Rattle.std.specs.Prelude.{ℕ, ◌≤◌, List, [], ◌∷◌, ◌≡◌}
use Rattle.std.specs.Borrow.{Bor}
use Rattle.base_rules.specs.Answers.{reads, refusal}
use Rattle.mbus_rules.specs.Lines.{Accepted}
use Rattle.mbus_search.specs.declared.Spot.{Spot}
use Rattle.mbus_search.specs.Searching.{Begins, spot_at}
use Rattle.mbus_either.specs.declared.Interface.TheVariants.{Mbus, Optical}
use Rattle.mbus_either.specs.declared.Either.{Either}
use Rattle.mbus_either.specs.declared.LiveLine.{LiveLine}
use Rattle.mbus_either.specs.Interfaces.{live_on, find_either}
use Rattle.mbus_either.specs.Stretches.{capture_of, HandsEither}

-- The stretch that is handed back is an accepted line.
abbrev pub StretchIsAccepted : Type 0
StretchIsAccepted =
    (mbus optical : Bor (List ℕ)) (r : Either) → HandsEither mbus optical r → (l : LiveLine)
    → find_either mbus.now optical.now ≡ reads l → Accepted r.stretch.now

-- It begins where the answer says, and no accepted line begins before it in its capture.
abbrev pub LineIsThere : Type 0
LineIsThere =
    (mbus optical : List ℕ) (l : LiveLine) → find_either mbus optical ≡ reads l
    → Begins (capture_of l.interface mbus optical) l.spot.place l.spot.length

abbrev pub LineIsFirst : Type 0
LineIsFirst =
    (mbus optical : List ℕ) (l : LiveLine) → find_either mbus optical ≡ reads l → (place n : ℕ)
    → Begins (capture_of l.interface mbus optical) place n → l.spot.place ≤ place

-- Where M-Bus is passed over it has no accepted line.
abbrev pub PassedOverHasNone : Type 0
PassedOverHasNone =
    (mbus optical : List ℕ) (l : LiveLine) → find_either mbus optical ≡ reads l → l.interface ≡ Optical → (place n : ℕ)
    → Begins mbus place n → ⊥

-- Wherever an accepted line begins in M-Bus, that capture is answered; and where none does and one begins in optical, that one.
abbrev pub MbusIsFound : Type 0
MbusIsFound =
    (mbus optical : List ℕ) (place n : ℕ) → Begins mbus place n
    → (p : Spot) × (find_either mbus optical ≡ reads (live_on Mbus p)) × (p.place ≤ place)

abbrev pub OpticalIsFound : Type 0
OpticalIsFound =
    (mbus optical : List ℕ) (place n : ℕ) → ((q m : ℕ) → Begins mbus q m → ⊥) → Begins optical place n
    → (p : Spot) × (find_either mbus optical ≡ reads (live_on Optical p)) × (p.place ≤ place)

-- A refusal means that no accepted line begins anywhere in either. (`Refusals`: its number is 18.)
abbrev pub NeitherHasOne : Type 0
NeitherHasOne =
    (mbus optical : List ℕ) (k : ℕ) → find_either mbus optical ≡ refusal k
    → ((place n : ℕ) → Begins mbus place n → ⊥) × ((place n : ℕ) → Begins optical place n → ⊥)

-- The order is by interface, never by place; each alone; and neither.
abbrev pub InterfaceValues : Type 0
InterfaceValues =
    (find_either (0 ∷ 0 ∷ 0x1E5 ∷ []) (0x1E5 ∷ []) ≡ reads (live_on Mbus (spot_at 2 1)))
    × (find_either (0x1E5 ∷ []) (0 ∷ []) ≡ reads (live_on Mbus (spot_at 0 1)))
    × (find_either (0x0E5 ∷ []) (0 ∷ 0x1E5 ∷ []) ≡ reads (live_on Optical (spot_at 1 1)))
    × (find_either [] (0x0E5 ∷ []) ≡ refusal 18)
