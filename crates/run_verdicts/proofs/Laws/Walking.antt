-- The walk along rows, which keeps the exchange of each position and puts the verdict of each row into its place.
use Prim.Native.Nat.{ℕ, zero, suc, ◌+◌, ◌-◌, ◌≤◌, ◌<◌, zero-le}
use mathlib.Core.List.{List, [], ◌∷◌, ◌++◌}
use mathlib.Core.Path.{◌≡◌, refl, sym, ap, ap₂, ◌∙◌}
use native.Mathlib.Numerals.{add-one}
use native.Mathlib.Omega.{arith}
use borrow.Author.Tests.{eqb-true, eqb-false}
use lib.Dec.{eqb}
use lib.ListN.{length, get_or, take, drop, set, replicate, get_or-replicate, length-append, length-set, take-append-drop}
use lib.Seq.{take-suc-set, drop-set-lt, drop-drop, get_or-set_same, get_or-set_other}
use Rattle.base_rules.proofs.Laws.Tests.{by_test}
use Rattle.bundle_rows.specs.Rows.{most_rows}
use Rattle.exchange_steps.specs.declared.Slot.{Slot}
use Rattle.exchange_steps.specs.declared.Slot.TheVariants.{Idle}
use Rattle.bundle_check.specs.Records.{Recorded}
use Rattle.bundle_check.specs.Walks.{end_of}
use Rattle.run_verdicts.specs.declared.Verdict.{Verdict}
use Rattle.run_verdicts.specs.declared.Verdict.TheVariants.{Unasked}
use Rattle.run_verdicts.specs.declared.judging.Judged.{Judged}
use Rattle.run_verdicts.specs.Verdicts.{verdict_after, slot_after, told_to, slot_of, verdicts_from, verdicts_of}
use Rattle.run_verdicts.specs.Judging.{judged_of}
use Rattle.run_verdicts.specs.Walking.{firsts}
use Rattle.run_verdicts.specs.Shown.{in_places}
use Rattle.run_verdicts.proofs.Laws.Telling.{slot_next, verdicts_next, length_verdicts}

pub length_firsts : {A : Type 0} (f : ℕ → A) (n : ℕ) → length (firsts f n) ≡ n
unfolding firsts
length_firsts f zero = refl
length_firsts f (suc n) = length-append (firsts f n) (f n ∷ []) ∙ omega (arith, length_firsts f n)

pub record Walked (f : ℕ → Recorded) (n i : ℕ) (slots : List Slot) (verdicts : List Verdict) : Type 0 where
  pub inside : i ≤ n
  pub few : n ≤ most_rows
  pub positions : length slots ≡ 49
  pub places : length verdicts ≡ most_rows
  pub so : take i verdicts ≡ verdicts_of (firsts f i)
  pub rest : drop i verdicts ≡ replicate (most_rows - i) Unasked
  pub stand : (p : ℕ) → p < 49 → get_or slots p Idle ≡ slot_of p (firsts f i)

module _ {f : ℕ → Recorded} {n : ℕ} where
  pub walked_none : n ≤ most_rows → Walked f n 0 (replicate 49 Idle) (replicate most_rows Unasked)
  unfolding firsts verdicts_from end_of
  walked_none h = record {
    inside = zero-le;
    few = h;
    positions = refl;
    places = refl;
    so = refl;
    rest = refl;
    stand = λ p l. get_or-replicate 49 p Idle Idle l;
  }

  module _ {i : ℕ} {slots : List Slot} {verdicts : List Verdict} (g : Walked f n i slots verdicts) (h : i < n) (inside : (f i).position < 49)
      {judged : Judged} (e : judged ≡ judged_of (get_or slots (f i).position Idle) (f i)) where
    abbrev k : Recorded
    k = f i

    stood : get_or slots k.position Idle ≡ slot_of k.position (firsts f i)
    stood = g.stand k.position inside

    told : judged.verdict ≡ verdict_after (slot_of k.position (firsts f i)) k
    told = ap (λ (j : Judged). j.verdict) e ∙ ap (λ (b : Slot). verdict_after b k) stood

    stands : judged.slot ≡ slot_after (slot_of k.position (firsts f i)) k
    stands = ap (λ (j : Judged). j.slot) e ∙ ap (λ (b : Slot). slot_after b k) stood

    stand_next : (p : ℕ) → p < 49 → get_or (set slots k.position judged.slot) p Idle ≡ told_to p (slot_of p (firsts f i)) k
    stand_next p l =
        by_test (eqb k.position p)
        (λ t. let same : k.position ≡ p = eqb-true k.position p t in
        rw (t, ← same) (get_or-set_same slots k.position judged.slot Idle (omega (arith, g.positions)) ∙ stands))
        (λ t. rw t (get_or-set_other slots k.position p judged.slot Idle (λ q. eqb-false k.position p t (sym q)) ∙ g.stand p l))

    pub walked_next : Walked f n (i + 1) (set slots k.position judged.slot) (set verdicts i judged.verdict)
    unfolding firsts
    walked_next =
        let room : i < length verdicts = omega (arith, g.few, g.places) in
        let more : most_rows - i ≡ suc (most_rows - (i + 1)) = omega (arith, g.few) in
        record {
          inside = omega arith;
          few = g.few;
          positions = length-set slots k.position judged.slot ∙ g.positions;
          places = length-set verdicts i judged.verdict ∙ g.places;
          so =
              rw (add-one, take-suc-set verdicts i judged.verdict room, g.so)
              (ap (λ (v : Verdict). verdicts_of (firsts f i) ++ (v ∷ [])) told
              ∙ sym (verdicts_next (firsts f i) k));
          rest =
              drop-set-lt (i + 1) verdicts i judged.verdict (omega arith) ∙ sym (drop-drop 1 i verdicts)
              ∙ ap (drop 1) (g.rest ∙ ap (λ (m : ℕ). replicate m Unasked) more);
          stand = λ p l. stand_next p l ∙ rw add-one (sym (slot_next p (firsts f i) k));
        }

  pub walked_all : {i : ℕ} {slots : List Slot} {verdicts : List Verdict} → Walked f n i slots verdicts → n ≤ i → verdicts ≡ in_places (verdicts_of (firsts f n))
  walked_all {i} {slots} {verdicts} g h =
      let end : i ≡ n = omega (arith, g.inside) in
      let size : length (verdicts_of (firsts f n)) ≡ n = length_verdicts [] (firsts f n) ∙ length_firsts f n in
      sym (take-append-drop i verdicts)
      ∙ ap₂ (λ (x y : List Verdict). x ++ y) (g.so ∙ ap (λ (m : ℕ). verdicts_of (firsts f m)) end)
      (g.rest ∙ ap (λ (m : ℕ). replicate (most_rows - m) Unasked) (end ∙ sym size))
