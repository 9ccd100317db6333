-- What the answer means: the line found is accepted and began at or after t, none such begins before it; 18 means that none does anywhere.
use Prim.Native.Nat.{ℕ, zero, suc, ◌+◌, ◌≤◌, zero-le}
use mathlib.Core.Bool.{Bool, true, false, cond}
use mathlib.Core.List.{List, [], ◌∷◌, ◌++◌}
use mathlib.Core.Path.{◌≡◌, refl, sym, ap, ap₂, subst, ◌∙◌}
use native.Mathlib.Nat.{le_of_suc-le-suc}
use native.Mathlib.Omega.{arith}
use borrow.Author.Tests.{leb-true, le-leb}
use lib.Dec.{leb}
use lib.ListN.{length}
use Rattle.base_rules.specs.Lists.{at, any}
use Rattle.base_rules.specs.Answers.{Answer, reads, refusal, within}
use Rattle.base_rules.proofs.Laws.Tests.{neither}
use Rattle.mbus_search.specs.declared.Spot.{Spot}
use Rattle.mbus_search.specs.Searching.{spot_at, length_here, further, or_else, find_in}
use Rattle.mbus_search.proofs.Laws.Meaning as search
use Rattle.mbus_after.specs.declared.TimedSpot.{TimedSpot}
use Rattle.mbus_after.specs.After.{BeginsAfter, timed_at, moved_timed, or_later, find_after}
use Rattle.mbus_after.proofs.Laws.Walks.{moved_zero, moved_moved, first_passed}

-- what is found: a line that began at or after t, and when
pub record Finding (t : ℕ) (s times : List ℕ) (p : TimedSpot) : Type 0 where
  pub begins : BeginsAfter t s times p.spot.place p.spot.length
  pub time : p.time ≡ at times p.spot.place

one_on : (t c b : ℕ) (s times : List ℕ) (q : TimedSpot) → Finding t s times q
    → Finding t (c ∷ s) (b ∷ times) (timed_at (1 + q.spot.place) q.spot.length q.time)
one_on t c b s times q f =
    let one : 1 + q.spot.place ≡ suc q.spot.place = omega arith in
    subst (λ (x : ℕ). Finding t (c ∷ s) (b ∷ times) (timed_at x q.spot.length q.time)) (sym one)
    (record { begins = record { begins = f.begins.begins; timed = omega (arith, f.begins.timed); since = f.begins.since }; time = f.time })

pub found_begins : (t : ℕ) (s times : List ℕ) (p : TimedSpot) → find_after t s times ≡ reads p → Finding t s times p
unfolding find_after find_in
found_begins t [] times p e = let z : ◌≡◌ {A = ℕ} 0 1 = cc in absurd (omega arith)
found_begins t (c ∷ s) [] p e = let z : ◌≡◌ {A = ℕ} 0 1 = cc in absurd (omega arith)
found_begins t (c ∷ s) (b ∷ times) p e = go (leb t b) refl (length_here (c ∷ s)) refl (find_after t s times) refl (found_begins t s times) e
  where
    found : {q : TimedSpot} → q ≡ p → Finding t (c ∷ s) (b ∷ times) q → Finding t (c ∷ s) (b ∷ times) p
    found e f = subst (Finding t (c ∷ s) (b ∷ times)) e f

    there : (f : Answer TimedSpot) → find_after t s times ≡ f → ((q : TimedSpot) → find_after t s times ≡ reads q → Finding t s times q)
        → moved_timed 1 f ≡ reads p → Finding t (c ∷ s) (b ∷ times) p
    there (refusal k) g rest q = let z : ◌≡◌ {A = ℕ} 0 1 = cc in absurd (omega arith)
    there (reads f) g rest q = found (cc) (one_on t c b s times f (rest f g))

    go : (u : Bool) → leb t b ≡ u → (a : Answer ℕ) → length_here (c ∷ s) ≡ a → (f : Answer TimedSpot) → find_after t s times ≡ f
        → ((q : TimedSpot) → find_after t s times ≡ reads q → Finding t s times q) → or_later (cond u a (refusal 18)) b (moved_timed 1 f) ≡ reads p
        → Finding t (c ∷ s) (b ∷ times) p
    go true l (reads n) h f g rest q = found {q = timed_at 0 n b} (cc) (record {
      begins = record {
        begins = search.found_begins (c ∷ s) (spot_at 0 n) (ap (λ (a : Answer ℕ). or_else a (further (find_in s))) h);
        timed = omega arith;
        since = leb-true t b l;
      };
      time = refl;
    })
    go true l (refusal m) h f g rest q = there f g rest q
    go false l a h f g rest q = there f g rest q

-- wherever such a line begins, one is found there or before
pub begins_found : (t : ℕ) (s times : List ℕ) (place n : ℕ) → BeginsAfter t s times place n
    → (p : TimedSpot) × (find_after t s times ≡ reads p) × (p.spot.place ≤ place)
unfolding find_after find_in
begins_found t [] times place n b =
    let f = search.begins_found [] place n b.begins in let z : ◌≡◌ {A = ℕ} 0 1 = cc f.1 in absurd (omega arith)
begins_found t (c ∷ s) [] place n b = absurd (omega (arith, b.timed))
begins_found t (c ∷ s) (time ∷ times) zero n b =
    let l : leb t time ≡ true = le-leb t time b.since in
    let f = search.begins_found (c ∷ s) 0 n b.begins in
    go l (length_here (c ∷ s)) refl (find_in s) f.0 f.1 f.2
  where
    go : leb t time ≡ true → (a : Answer ℕ) → length_here (c ∷ s) ≡ a → (f : Answer Spot) → (p : Spot) → or_else (length_here (c ∷ s)) (further f) ≡ reads p
        → p.place ≤ 0
        → (p : TimedSpot) × (or_later (cond (leb t time) (length_here (c ∷ s)) (refusal 18)) time (moved_timed 1 (find_after t s times)) ≡ reads p)
        × (p.spot.place ≤ 0)
    go l (reads m) h f p q z = (timed_at 0 m time, rw (l, h), zero-le)
    go l (refusal m) h (refusal k) p q z = let x : ◌≡◌ {A = ℕ} 0 1 = cc in absurd (omega arith)
    go l (refusal m) h (reads f) p q z = let x : f.place + 1 ≡ p.place = cc in absurd (omega arith)
begins_found t (c ∷ s) (time ∷ times) (suc place) n b =
    go (cond (leb t time) (length_here (c ∷ s)) (refusal 18)) refl
    (begins_found t s times place n (record { begins = b.begins; timed = le_of_suc-le-suc b.timed; since = b.since }))
  where
    go : (a : Answer ℕ) → cond (leb t time) (length_here (c ∷ s)) (refusal 18) ≡ a
        → (p : TimedSpot) × (find_after t s times ≡ reads p) × (p.spot.place ≤ place)
        → (p : TimedSpot) × (or_later (cond (leb t time) (length_here (c ∷ s)) (refusal 18)) time (moved_timed 1 (find_after t s times)) ≡ reads p)
        × (p.spot.place ≤ suc place)
    go (reads m) h r = (timed_at 0 m time, ap (λ (a : Answer ℕ). or_later a time (moved_timed 1 (find_after t s times))) h, zero-le)
    go (refusal k) h r = (
      timed_at (1 + r.0.spot.place) r.0.spot.length r.0.time,
      ap₂ (λ (a : Answer ℕ) (f : Answer TimedSpot). or_later a time (moved_timed 1 f)) h r.1,
      omega (arith, r.2),
    )

-- 18: none such begins anywhere
pub none_begins : (t : ℕ) (s times : List ℕ) (k place n : ℕ) → find_after t s times ≡ refusal k → BeginsAfter t s times place n → ⊥
none_begins t s times k place n e b = let f = begins_found t s times place n b in let z : ◌≡◌ {A = ℕ} 0 1 = cc f.1 in omega arith

-- the place found is the lowest
pub lowest : (t : ℕ) (s times : List ℕ) (p : TimedSpot) (place n : ℕ) → find_after t s times ≡ reads p → BeginsAfter t s times place n
    → p.spot.place ≤ place
lowest t s times p place n e b = let f = begins_found t s times place n b in let q : f.0 ≡ p = cc f.1 in rw (← q) f.2

-- every time is at or after 0: with a time for each character it is the search
pub from_zero : (s times : List ℕ) → length s ≤ length times → within (λ (p : TimedSpot). p.spot) (find_after 0 s times) ≡ find_in s
unfolding find_after find_in
from_zero [] times h = refl
from_zero (c ∷ s) [] h = absurd (omega arith)
from_zero (c ∷ s) (time ∷ times) h =
    rw (le-leb 0 time zero-le) (go (length_here (c ∷ s)) (find_after 0 s times) (find_in s) (from_zero s times (le_of_suc-le-suc h)))
  where
    one_further : (f : Answer TimedSpot) → within (λ (p : TimedSpot). p.spot) (moved_timed 1 f) ≡ further (within (λ (p : TimedSpot). p.spot) f)
    one_further (refusal n) = refl
    one_further (reads p) = let e : 1 + p.spot.place ≡ p.spot.place + 1 = omega arith in ap (λ (x : ℕ). reads (spot_at x p.spot.length)) e

    go : (a : Answer ℕ) (f : Answer TimedSpot) (g : Answer Spot) → within (λ (p : TimedSpot). p.spot) f ≡ g
        → within (λ (p : TimedSpot). p.spot) (or_later a time (moved_timed 1 f)) ≡ or_else a (further g)
    go (reads n) f g e = refl
    go (refusal n) f g e = one_further f ∙ ap further e

-- characters that began before t change nothing but the place
pub old_passed : (t : ℕ) (old s before times : List ℕ) → length old ≡ length before → any (leb t) before ≡ false
    → find_after t (old ++ s) (before ++ times) ≡ moved_timed (length old) (find_after t s times)
unfolding any
old_passed t [] s [] times h e = sym (moved_zero (find_after t s times))
old_passed t [] s (b ∷ before) times h e = absurd (omega arith)
old_passed t (c ∷ old) s [] times h e = absurd (omega arith)
old_passed t (c ∷ old) s (b ∷ before) times h e =
    let both = neither (leb t b) (any (leb t) before) e in
    let one : 1 + length old ≡ suc (length old) = omega arith in
    let early : cond (leb t b) (length_here (c ∷ (old ++ s))) (refusal 18) ≡ refusal 18 = rw both.0 in
    first_passed t c b (old ++ s) (before ++ times) early ∙ ap (moved_timed 1) (old_passed t old s before times (omega arith) both.1)
    ∙ moved_moved 1 (length old) (find_after t s times) ∙ ap (λ (k : ℕ). moved_timed k (find_after t s times)) one
