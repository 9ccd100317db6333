-- Laws of `specs/Interfaces`: what each search tells of the answer, what the answer tells, and a line lies inside its capture.
use Prim.Native.Nat.{ℕ, ◌+◌, ◌≤◌}
use mathlib.Core.List.{List}
use mathlib.Core.Path.{◌≡◌, refl, sym, ap, ◌∙◌}
use native.Mathlib.Omega.{arith}
use lib.ListN.{length}
use Rattle.std.specs.Prelude.{Result, Ok}
use Rattle.base_rules.specs.Answers.{Answer, reads, refusal}
use Rattle.base_rules.specs.declared.refusals.Refusal.{Refusal}
use Rattle.base_rules.specs.Shown.{shown}
use Rattle.base_rules.proofs.Laws.AnswerLaws.{shown_ok}
use Rattle.mbus_search.specs.declared.Spot.{Spot}
use Rattle.mbus_search.specs.Searching.{find_in}
use Rattle.mbus_search.proofs.Laws.Meaning.{found_begins, begins_inside}
use Rattle.mbus_either.specs.declared.Interface.{Interface}
use Rattle.mbus_either.specs.declared.Interface.TheVariants.{Mbus, Optical}
use Rattle.mbus_either.specs.declared.LiveLine.{LiveLine}
use Rattle.mbus_either.specs.Interfaces.{live_on, or_optical, find_either}
use Rattle.mbus_either.specs.Stretches.{capture_of}

-- a line that the search of M-Bus tells is the answer, whatever optical has
pub on_mbus : (a b : Answer Spot) {s : Result Spot Refusal} {p : Spot} → s ≡ shown a → s ≡ Ok p → Ok (live_on Mbus p) ≡ shown (or_optical a b)
on_mbus a (refusal n) {s} {p} e f = rw (shown_ok a p (sym e ∙ f))
on_mbus a (reads o) {s} {p} e f = rw (shown_ok a p (sym e ∙ f))

-- the answer behind a line that was found
pub live_on_lem : (a : Answer LiveLine) {f : Result LiveLine Refusal} {l : LiveLine} {j : Interface} → f ≡ shown a → f ≡ Ok l → l.interface ≡ j
    → a ≡ reads (live_on j l.spot)
live_on_lem a {f} {l} {j} e t q = shown_ok a (live_on j l.spot) (sym e ∙ t ∙ ap (λ (k : Interface). Ok (live_on k l.spot)) q)

-- ---- a line lies inside its capture

-- what is found is what the search finds in that capture
pub live_found : (mbus optical : List ℕ) (l : LiveLine) → find_either mbus optical ≡ reads l
    → find_in (capture_of l.interface mbus optical) ≡ reads l.spot
live_found mbus optical l = go (find_in mbus) refl (find_in optical) refl
  where
    go : (a : Answer Spot) → find_in mbus ≡ a → (b : Answer Spot) → find_in optical ≡ b → or_optical a b ≡ reads l
        → find_in (capture_of l.interface mbus optical) ≡ reads l.spot
    go (reads p) e b f q = let here : live_on Mbus p ≡ l = cc in rw (← here) e
    go (refusal n) e (reads p) f q = let there : live_on Optical p ≡ l = cc in rw (← there) f
    go (refusal n) e (refusal m) f q = let z : ◌≡◌ {A = ℕ} 0 1 = cc in absurd (omega arith)

pub line_inside : (mbus optical : List ℕ) (l : LiveLine) → find_either mbus optical ≡ reads l
    → l.spot.place + l.spot.length ≤ length (capture_of l.interface mbus optical)
line_inside mbus optical l e =
    let s = capture_of l.interface mbus optical in
    begins_inside s l.spot.place l.spot.length (found_begins s l.spot (live_found mbus optical l e))
