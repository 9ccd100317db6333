-- What the answer means: the stretch is an accepted line, the first of its capture; M-Bus is passed over only where it has none; 18 means that
-- neither has one.
use Prim.Native.Nat.{ℕ, ◌≤◌}
use mathlib.Core.Bool.{true, false≢true}
use mathlib.Core.List.{List}
use mathlib.Core.Path.{◌≡◌, refl, ap, ◌∙◌}
use native.Mathlib.Omega.{arith}
use denote.Ref.{Bor}
use Rattle.mbus_rules.specs.declared.Telegram.{Telegram}
use Rattle.base_rules.specs.Answers.{Answer, reads, refusal, within}
use Rattle.mbus_rules.specs.Lines.{read_line, Accepted}
use Rattle.mbus_search.specs.declared.Spot.{Spot}
use Rattle.mbus_search.specs.Searching.{accepts, Begins, find_in}
use Rattle.mbus_search.proofs.Laws.Meaning.{found_begins, begins_found, none_begins, lowest}
use Rattle.mbus_either.specs.declared.Interface.{Interface}
use Rattle.mbus_either.specs.declared.Interface.TheVariants.{Mbus, Optical}
use Rattle.mbus_either.specs.declared.Either.{Either}
use Rattle.mbus_either.specs.declared.LiveLine.{LiveLine}
use Rattle.mbus_either.specs.Interfaces.{live_on, or_optical, find_either}
use Rattle.mbus_either.specs.Stretches.{capture_of, StretchOf, HandsEither}
use Rattle.mbus_either.proofs.Laws.Lines.{live_found}

accepted : (s : List ℕ) → accepts (read_line s) ≡ true → Accepted s
accepted s = go (read_line s) refl
  where
    go : (a : Answer Telegram) → read_line s ≡ a → accepts a ≡ true → Accepted s
    go (refusal n) e t = absurd (false≢true t)
    go (reads x) e t = (x, e)

module _ (mbus optical : List ℕ) (l : LiveLine) (e : find_either mbus optical ≡ reads l) where
  pub live_begins : Begins (capture_of l.interface mbus optical) l.spot.place l.spot.length
  live_begins = found_begins (capture_of l.interface mbus optical) l.spot (live_found mbus optical l e)

  pub live_lowest : (place n : ℕ) → Begins (capture_of l.interface mbus optical) place n → l.spot.place ≤ place
  live_lowest place n b = lowest (capture_of l.interface mbus optical) l.spot place n (live_found mbus optical l e) b

  pub passed_over : l.interface ≡ Optical → (place n : ℕ) → Begins mbus place n → ⊥
  passed_over i place n b = go (begins_found mbus place n b)
    where
      go : (p : Spot) × (find_in mbus ≡ reads p) × (p.place ≤ place) → ⊥
      go f =
          let first : find_either mbus optical ≡ reads (live_on Mbus f.0) = ap (λ (a : Answer Spot). or_optical a (find_in optical)) f.1 in
          let z : ◌≡◌ {A = ℕ} 0 1 = cc in
          omega arith

-- the stretch that is handed out is the line
capture_now : (i : Interface) (mbus optical : Bor (List ℕ)) → (capture_of i mbus optical).now ≡ capture_of i mbus.now optical.now
capture_now Mbus mbus optical = refl
capture_now Optical mbus optical = refl

pub stretch_accepted : (mbus optical : Bor (List ℕ)) (r : Either) → HandsEither mbus optical r → (l : LiveLine)
    → find_either mbus.now optical.now ≡ reads l → Accepted r.stretch.now
stretch_accepted mbus optical r h l e =
    let part : StretchOf (reads l) mbus optical r.stretch = rw e at h.stretch in
    let line = live_begins mbus.now optical.now l e in
    rw (part.characters, capture_now l.interface mbus optical) (accepted _ line.1)

-- wherever a line begins, one is found
pub mbus_found : (mbus optical : List ℕ) (place n : ℕ) → Begins mbus place n
    → (p : Spot) × (find_either mbus optical ≡ reads (live_on Mbus p)) × (p.place ≤ place)
mbus_found mbus optical place n b =
    let f = begins_found mbus place n b in
    (f.0, ap (λ (a : Answer Spot). or_optical a (find_in optical)) f.1, f.2)

pub optical_found : (mbus optical : List ℕ) (place n : ℕ) → ((q m : ℕ) → Begins mbus q m → ⊥) → Begins optical place n
    → (p : Spot) × (find_either mbus optical ≡ reads (live_on Optical p)) × (p.place ≤ place)
optical_found mbus optical place n none b =
    let f = begins_found optical place n b in
    (f.0, go (find_in mbus) refl ∙ ap (within (live_on Optical)) f.1, f.2)
  where
    go : (a : Answer Spot) → find_in mbus ≡ a → find_either mbus optical ≡ within (live_on Optical) (find_in optical)
    go (reads p) e = absurd (none p.place p.length (found_begins mbus p e))
    go (refusal k) e = ap (λ (a : Answer Spot). or_optical a (find_in optical)) e

pub neither_begins : (mbus optical : List ℕ) (k : ℕ) → find_either mbus optical ≡ refusal k
    → ((place n : ℕ) → Begins mbus place n → ⊥) × ((place n : ℕ) → Begins optical place n → ⊥)
neither_begins mbus optical k = go (find_in mbus) refl (find_in optical) refl
  where
    go : (a : Answer Spot) → find_in mbus ≡ a → (b : Answer Spot) → find_in optical ≡ b → or_optical a b ≡ refusal k
        → ((place n : ℕ) → Begins mbus place n → ⊥) × ((place n : ℕ) → Begins optical place n → ⊥)
    go (reads p) e b f q = let z : ◌≡◌ {A = ℕ} 0 1 = cc in absurd (omega arith)
    go (refusal n) e (reads p) f q = let z : ◌≡◌ {A = ℕ} 0 1 = cc in absurd (omega arith)
    go (refusal n) e (refusal m) f q = (λ place i. none_begins mbus n place i e, λ place i. none_begins optical m place i f)
