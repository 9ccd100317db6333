-- What the walks of the search hold on to.
use Prim.Native.Nat.{ℕ, suc, ◌+◌, ◌-◌, ◌≤◌, ◌<◌}
use mathlib.Core.Bool.{Bool, true, false, cond, and-eq-true_iff}
use mathlib.Core.List.{List, [], ◌∷◌}
use mathlib.Core.Path.{◌≡◌, refl, sym, ap, ap₂, subst, ◌∙◌}
use native.Mathlib.Numerals.{add-one}
use native.Mathlib.Omega.{arith}
use borrow.Author.Tests.{ltb-true, ltb-false, le-leb, lt-leb}
use lib.Dec.{ltb, leb}
use lib.ListN
use lib.ListN.{drop, drop_of_length-le, length-drop}
use lib.Seq.{drop-cons, drop-nil, drop-drop}
use Rattle.base_rules.specs.Lists.{at}
use Rattle.base_rules.specs.Answers.{Answer, reads, refusal}
use Rattle.base_rules.proofs.Laws.Tests.{by_test}
use Rattle.std.specs.Prelude.{Result, Ok, Err}
use Rattle.base_rules.specs.declared.refusals.Refusal.{Refusal}
use Rattle.base_rules.specs.Shown.{shown}
use Rattle.base_rules.proofs.Laws.AnswerLaws.{shown_ok, shown_err}
use Rattle.mbus_search.specs.declared.Spot.{Spot}
use Rattle.mbus_search.specs.Searching.{spot_at, length_here, further, or_else, find_in, moved_by}
use Rattle.mbus_search.proofs.Laws.Walks.{cut_is}
use Rattle.mbus_after.specs.declared.TimedSpot.{TimedSpot}
use Rattle.mbus_after.specs.After.{timed_at, moved_timed, or_later, find_after, early_first, began_since, find_from}

-- ---- places further on

pub moved_zero : (a : Answer TimedSpot) → moved_timed 0 a ≡ a
moved_zero (refusal n) = refl
moved_zero (reads p) = let e : 0 + p.spot.place ≡ p.spot.place = omega arith in ap (λ (x : ℕ). reads (timed_at x p.spot.length p.time)) e

pub moved_moved : (j k : ℕ) (a : Answer TimedSpot) → moved_timed j (moved_timed k a) ≡ moved_timed (j + k) a
moved_moved j k (refusal n) = refl
moved_moved j k (reads p) =
    let e : j + (k + p.spot.place) ≡ j + k + p.spot.place = omega arith in ap (λ (x : ℕ). reads (timed_at x p.spot.length p.time)) e

pub untimed : (t : ℕ) (s : List ℕ) → find_after t s [] ≡ refusal 18
unfolding find_after
untimed t [] = refl
untimed t (c ∷ s) = refl

empty : (t : ℕ) (times : List ℕ) → find_after t [] times ≡ refusal 18
unfolding find_after
empty t times = refl

-- no line begins with the first character, or it began before t
pub first_passed : (t c time : ℕ) (s times : List ℕ) {m : ℕ} → cond (leb t time) (length_here (c ∷ s)) (refusal 18) ≡ refusal m
    → find_after t (c ∷ s) (time ∷ times) ≡ moved_timed 1 (find_after t s times)
unfolding find_after
first_passed t c time s times e = ap (λ (a : Answer ℕ). or_later a time (moved_timed 1 (find_after t s times))) e

-- from so many places on the answer is the same
abbrev pub Passed : ℕ → ℕ → List ℕ → List ℕ → Type 0
Passed t k s times = moved_timed k (find_after t (drop k s) (drop k times)) ≡ find_after t s times

passed_zero : (t : ℕ) (s times : List ℕ) → Passed t 0 s times
passed_zero t s times = moved_zero (find_after t s times)

passed_suc : (t k c time : ℕ) (s times : List ℕ) {m : ℕ} → cond (leb t time) (length_here (c ∷ s)) (refusal 18) ≡ refusal m → Passed t k s times
    → Passed t (1 + k) (c ∷ s) (time ∷ times)
passed_suc t k c time s times e rest =
    let one : 1 + k ≡ suc k = omega arith in
    subst (λ (x : ℕ). moved_timed (1 + k) (find_after t (drop x (c ∷ s)) (drop x (time ∷ times))) ≡ find_after t (c ∷ s) (time ∷ times)) (sym one)
    (sym (moved_moved 1 k (find_after t (drop k s) (drop k times))) ∙ ap (moved_timed 1) rest ∙ sym (first_passed t c time s times e))

passed_empty : (t k : ℕ) (times : List ℕ) → Passed t k [] times
passed_empty t k times = rw (drop-nil k, empty t (drop k times), empty t times)

passed_untimed : (t k : ℕ) (s : List ℕ) → Passed t k s []
passed_untimed t k s = rw (drop-nil k, untimed t (drop k s), untimed t s)

early_first_lem : (u : Bool) (a : Answer ℕ) → u ≡ false → cond u a (refusal 18) ≡ refusal 18
early_first_lem u a e = rw e

-- past the times that are before t
pub early_passed : (t : ℕ) (s times : List ℕ) → Passed t (early_first t times) s times
unfolding early_first
early_passed t s [] = passed_zero t s []
early_passed t [] (time ∷ times) = passed_empty t (early_first t (time ∷ times)) (time ∷ times)
early_passed t (c ∷ s) (time ∷ times) =
    by_test (leb t time) (λ e. subst (λ (k : ℕ). Passed t k (c ∷ s) (time ∷ times)) (sym (ap (λ (x : Bool). cond x 0 (1 + early_first t times)) e))
    (passed_zero t (c ∷ s) (time ∷ times)))
    (λ e. subst (λ (k : ℕ). Passed t k (c ∷ s) (time ∷ times)) (sym (ap (λ (x : Bool). cond x 0 (1 + early_first t times)) e))
    (passed_suc t (early_first t times) c time s times (early_first_lem (leb t time) (length_here (c ∷ s)) e) (early_passed t s times)))

-- the walk over times
module _ (t : ℕ) (times : List ℕ) (place : ℕ) where
  pub early_end : ListN.length times ≤ place → early_first t (drop place times) ≡ 0
  unfolding early_first
  early_end h = rw (drop_of_length-le times h)

  pub early_here : place < ListN.length times → t ≤ at times place → early_first t (drop place times) ≡ 0
  unfolding early_first
  early_here h l = rw (drop-cons times place 0 h, le-leb t (at times place) l)

  pub early_next : place < ListN.length times → at times place < t → early_first t (drop place times) ≡ 1 + early_first t (drop (place + 1) times)
  unfolding early_first
  early_next h l = rw (add-one, drop-cons times place 0 h, lt-leb t (at times place) l)

-- where the search finds a line, none begins before it
pub record Reached (t : ℕ) (s times : List ℕ) (p : Spot) : Type 0 where
  pub passed : Passed t p.place s times
  pub here : length_here (drop p.place s) ≡ reads p.length
  pub inside : p.place < ListN.length s

no_length : (u : Bool) {a : Answer ℕ} {n : ℕ} → a ≡ refusal n → cond u a (refusal 18) ≡ refusal (cond u n 18)
no_length true e = e
no_length false e = refl

pub search_reached : (t : ℕ) (s times : List ℕ) (p : Spot) → find_in s ≡ reads p → Reached t s times p
unfolding find_in
search_reached t [] times p e = let z : ◌≡◌ {A = ℕ} 0 1 = cc in absurd (omega arith)
search_reached t (c ∷ s) times p e = go (length_here (c ∷ s)) refl (find_in s) refl (search_reached t s (drop 1 times)) e
  where
    here : {q : Spot} → q ≡ p → Reached t (c ∷ s) times q → Reached t (c ∷ s) times p
    here e r = subst (λ (x : Spot). Reached t (c ∷ s) times x) e r

    further_on : (bs : List ℕ) {m : ℕ} (q : Spot) → length_here (c ∷ s) ≡ refusal m → Reached t s (drop 1 bs) q → Passed t (1 + q.place) (c ∷ s) bs
    further_on [] q h r = passed_untimed t (1 + q.place) (c ∷ s)
    further_on (b ∷ bs) q h r = passed_suc t q.place c b s bs (no_length (leb t b) h) r.passed

    go : (a : Answer ℕ) → length_here (c ∷ s) ≡ a → (f : Answer Spot) → find_in s ≡ f → ((q : Spot) → find_in s ≡ reads q → Reached t s (drop 1 times) q)
        → or_else a (further f) ≡ reads p → Reached t (c ∷ s) times p
    go (reads n) h f g rest q = here {q = spot_at 0 n} (cc) (record { passed = passed_zero t (c ∷ s) times; here = h; inside = omega arith })
    go (refusal m) h (refusal k) g rest q = let z : ◌≡◌ {A = ℕ} 0 1 = cc in absurd (omega arith)
    go (refusal m) h (reads f) g rest q =
        let r = rest f g in
        let one : 1 + f.place ≡ f.place + 1 = omega arith in
        here {q = spot_at (f.place + 1) f.length} (cc) (record {
          passed = subst (λ (k : ℕ). Passed t k (c ∷ s) times) one (further_on times f h r);
          here = rw add-one r.here;
          inside = omega (arith, r.inside);
        })

-- and where it finds none, none is found after t either
pub search_none : (t : ℕ) (s times : List ℕ) (n : ℕ) → find_in s ≡ refusal n → find_after t s times ≡ refusal 18
unfolding find_in
search_none t [] times n e = empty t times
search_none t (c ∷ s) [] n e = untimed t (c ∷ s)
search_none t (c ∷ s) (b ∷ times) n e = go (length_here (c ∷ s)) refl (find_in s) refl (search_none t s times) e
  where
    go : (a : Answer ℕ) → length_here (c ∷ s) ≡ a → (f : Answer Spot) → find_in s ≡ f
        → ((k : ℕ) → find_in s ≡ refusal k → find_after t s times ≡ refusal 18) → or_else a (further f) ≡ refusal n → find_after t (c ∷ s) (b ∷ times) ≡ refusal 18
    go (reads m) h f g rest q = let z : ◌≡◌ {A = ℕ} 0 1 = cc in absurd (omega arith)
    go (refusal m) h (reads f) g rest q = let z : ◌≡◌ {A = ℕ} 0 1 = cc in absurd (omega arith)
    go (refusal m) h (refusal k) g rest q = first_passed t c b s times (no_length (leb t b) h) ∙ ap (moved_timed 1) (rest k g)

-- by 18 alone
pub only_18 : (s : List ℕ) (n : ℕ) → find_in s ≡ refusal n → n ≡ 18
unfolding find_in
only_18 [] n e = cc
only_18 (c ∷ s) n e = go (length_here (c ∷ s)) (find_in s) (only_18 s) e
  where
    go : (a : Answer ℕ) (f : Answer Spot) → ((k : ℕ) → f ≡ refusal k → k ≡ 18) → or_else a (further f) ≡ refusal n → n ≡ 18
    go (reads m) f rest q = cc q
    go (refusal m) (reads o) rest q = cc q
    go (refusal m) (refusal k) rest q = let number : k ≡ n = cc in sym number ∙ rest k refl

-- ---- the search from a place on, as the code cuts it out

pub from_beyond : (s : List ℕ) (place : ℕ) → ListN.length s < place → find_from place s ≡ refusal 18
unfolding find_in
from_beyond s place h =
    let over : ListN.length s ≤ place = omega arith in ap (λ (l : List ℕ). moved_by place (find_in l)) (drop_of_length-le s over)

module _ (s : List ℕ) (place : ℕ) {f : Result Spot Refusal} (e : f ≡ shown (find_in (ListN.take (ListN.length s - place) (drop place s)))) where
  pub cut_found : f ≡ shown (find_in (drop place s))
  cut_found = e ∙ ap (λ (l : List ℕ). shown (find_in l)) (cut_is s place)

  pub from_refused : {r : Refusal} → f ≡ Err r → Err r ≡ shown (find_from place s)
  from_refused t = rw (shown_err (find_in (drop place s)) _ (sym cut_found ∙ t))

  pub from_at : {p : Spot} → f ≡ Ok p → find_from place s ≡ reads (spot_at (place + p.place) p.length)
  from_at t = rw (shown_ok (find_in (drop place s)) _ (sym cut_found ∙ t))

  -- the place found lies inside
  pub from_inside : place ≤ ListN.length s → {p : Spot} → f ≡ Ok p → place + p.place < ListN.length s
  from_inside h {p} t =
      omega (arith, (search_reached 0 (drop place s) [] p (shown_ok (find_in (drop place s)) p (sym cut_found ∙ t))).inside, length-drop place s)

-- ---- the walk over the places found: from here on the answer is the same

pub record After (t : ℕ) (s times : List ℕ) (place : ℕ) : Type 0 where
  pub so : Passed t place s times

after_more : {t : ℕ} {s times : List ℕ} {place : ℕ} → After t s times place → (k : ℕ) → Passed t k (drop place s) (drop place times)
    → After t s times (place + k)
after_more {t} {s} {times} {place} w k p = record {
  so =
      sym (moved_moved place k (find_after t (drop (place + k) s) (drop (place + k) times)))
      ∙ ap₂ (λ (x y : List ℕ). moved_timed place (moved_timed k (find_after t x y))) (sym (drop-drop k place s)) (sym (drop-drop k place times))
      ∙ ap (moved_timed place) p ∙ w.so;
}

-- past the times before t
pub after_early : {t : ℕ} {s times : List ℕ} {place next : ℕ} → After t s times place → next ≡ place + early_first t (drop place times)
    → After t s times next
after_early {t} {s} {times} {place} w e = subst (After t s times) (sym e)
    (after_more w (early_first t (drop place times)) (early_passed t (drop place s) (drop place times)))

pub after_start : {t : ℕ} {s times : List ℕ} → After t s times 0
after_start {t} {s} {times} = record { so = passed_zero t s times }

-- at the end
pub after_end : {t : ℕ} {s times : List ℕ} {place : ℕ} → After t s times place → ListN.length s ≤ place → find_after t s times ≡ refusal 18
after_end {t} {s} {times} {place} w h =
    sym (ap (moved_timed place) (sym (empty t (drop place times)))
    ∙ ap (λ (l : List ℕ). moved_timed place (find_after t l (drop place times))) (sym (drop_of_length-le s h)) ∙ w.so)

-- where a line was found
pub record FoundHere (t : ℕ) (s times : List ℕ) (place found n : ℕ) : Type 0 where
  pub walk : After t s times found
  pub here : length_here (drop found s) ≡ reads n
  pub inside : found < ListN.length s
  pub beyond : place ≤ found

module _ {t : ℕ} {s times : List ℕ} {place : ℕ} (w : After t s times place) {f : Result Spot Refusal} (e : f ≡ shown (find_from place s)) where
  -- by 18, whatever number the search from here tells
  pub after_18 : {r : Refusal} → f ≡ Err r → find_after t s times ≡ refusal 18
  after_18 {r} q = go (find_in (drop place s)) refl (sym e ∙ q)
    where
      go : (a : Answer Spot) → find_in (drop place s) ≡ a → shown (moved_by place a) ≡ Err r → find_after t s times ≡ refusal 18
      go (refusal n) q h = sym (ap (moved_timed place) (sym (search_none t (drop place s) (drop place times) n q)) ∙ w.so)
      go (reads p) q h = cc h

  pub after_none : {r : Refusal} → f ≡ Err r → find_after t s times ≡ refusal r.0
  after_none {r} q = go (find_in (drop place s)) refl (sym e ∙ q)
    where
      go : (a : Answer Spot) → find_in (drop place s) ≡ a → shown (moved_by place a) ≡ Err r → find_after t s times ≡ refusal r.0
      go (refusal n) q h =
          let number : n ≡ r.0 = cc in
          rw (← number, only_18 (drop place s) n q)
          (sym (ap (moved_timed place) (sym (search_none t (drop place s) (drop place times) n q)) ∙ w.so))
      go (reads p) q h = cc h

  pub after_found : {p : Spot} → f ≡ Ok p → FoundHere t s times place p.place p.length
  after_found {p} r = go (find_in (drop place s)) refl (sym e ∙ r)
    where
      go : (a : Answer Spot) → find_in (drop place s) ≡ a → shown (moved_by place a) ≡ Ok p → FoundHere t s times place p.place p.length
      go (refusal m) q h = cc h
      go (reads o) q h =
          let r = search_reached t (drop place s) (drop place times) o q in
          let z : spot_at (place + o.place) o.length ≡ p = cc in
          let x : place + o.place ≡ p.place = ap (λ (k : Spot). k.place) z in
          let y : o.length ≡ p.length = ap (λ (k : Spot). k.length) z in
          record {
            walk = subst (After t s times) x (after_more w o.place r.passed);
            here = rw (← x, ← drop-drop o.place place s, ← y) r.here;
            inside = omega (arith, r.inside, length-drop place s);
            beyond = omega arith;
          }

module _ {t : ℕ} {s times : List ℕ} {place found n : ℕ} (w : FoundHere t s times place found n) {began : Bool} (e : began ≡ began_since t found times) where
  -- it began at or after t
  pub after_timed : began ≡ true → found < ListN.length times
  after_timed h = ltb-true found (ListN.length times) ((and-eq-true_iff (ltb found (ListN.length times)) (leb t (at times found))).0 (sym e ∙ h)).0

  pub after_hit : began ≡ true → find_after t s times ≡ reads (timed_at found n (at times found))
  unfolding find_after
  after_hit h =
      let both = (and-eq-true_iff (ltb found (ListN.length times)) (leb t (at times found))).0 (sym e ∙ h) in
      let first : find_after t (drop found s) (drop found times) ≡ reads (timed_at 0 n (at times found)) =
      rw (drop-cons s found 0 w.inside, drop-cons times found 0 (after_timed h), both.1, rw (drop-cons s found 0 w.inside) at w.here) in
      let zero_more : found ≡ found + 0 = omega arith in
      sym (ap (λ (x : ℕ). reads (timed_at x n (at times found))) zero_more ∙ ap (moved_timed found) (sym first) ∙ w.walk.so)

  -- or it did not, and is passed over
  pub after_old : began ≡ false → After t s times (found + 1)
  after_old h = after_more w.walk 1 (by_test (ltb found (ListN.length times)) timed late)
    where
      timed : ltb found (ListN.length times) ≡ true → Passed t 1 (drop found s) (drop found times)
      timed u =
          let early : leb t (at times found) ≡ false = rw u at (sym e ∙ h) in
          rw (drop-cons s found 0 w.inside, drop-cons times found 0 (ltb-true found (ListN.length times) u))
          (passed_suc t 0 (at s found) (at times found) (drop (suc found) s) (drop (suc found) times)
          (early_first_lem (leb t (at times found)) (length_here (at s found ∷ drop (suc found) s)) early)
          (passed_zero t (drop (suc found) s) (drop (suc found) times)))

      late : ltb found (ListN.length times) ≡ false → Passed t 1 (drop found s) (drop found times)
      late u = rw (drop_of_length-le times (ltb-false found (ListN.length times) u)) (passed_untimed t 1 (drop found s))
