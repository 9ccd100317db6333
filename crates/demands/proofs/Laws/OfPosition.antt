-- Proofs of the statements of specs/OfPosition.
use Prim.Native.Nat.{ℕ}
use mathlib.Core.List.{List, [], ◌∷◌, ◌++◌, append-nil}
use mathlib.Core.Path.{◌≡◌, refl, sym, ap, ap₂, ◌∙◌}
use native.Mathlib.Omega.{arith}
use borrow.Author.Tests.{eq-eqb, ne_eqb, eqb-true, eqb-false, le-ltb, ltb-false}
use lib.Dec.{eqb, ltb}
use lib.ListN.{length, drop}
use lib.Seq.{take_at, drop_at}
use Rattle.base_characters.specs.Characters.{chars}
use Rattle.base_lent.specs.Pieces.{pieces}
use Rattle.base_numbers.specs.Numbers.{number, bytes_of}
use Rattle.base_rules.specs.Answers.{Answer, reads}
use Rattle.base_rules.specs.Bytes.{Bytes}
use Rattle.base_rules.specs.Lists.{any}
use Rattle.base_rules.proofs.Laws.Tests.{by_test}
use Rattle.bundle_rows.specs.Fields.{wrong_position}
use Rattle.bundle_rows.specs.Rows.{rows_of, bytes_of_rows}
use Rattle.bundle_check.specs.Bundles.{check_of}
use Rattle.bundle_check.specs.Records.{Recorded, records_in, records_of, rows_for, bodies_for, bundle_of}
use Rattle.bundle_check.specs.Walks.{some_wrong, end_of}
use Rattle.bundle_check.proofs.Laws.RecordLaws.{length_bundle, contents_back}
use Rattle.bundle_sweep.specs.Sweeping.{without}
use Rattle.bundle_sweep.proofs.Laws.Without.{without_append}
use Rattle.bundle_joining.specs.Choosing.{elsewhere, of_position, position_bundle, choosing_of}
use Rattle.bundle_joining.specs.ChoosingShown.{buffer_chosen}
use Rattle.bundle_joining.proofs.Laws.Choosing.{own_fits}
use Rattle.bundle_joining.proofs.Laws.ChoosingProper as proper
use Rattle.base_rules.proofs.Laws.AnswerLaws.{shown_same}
use Rattle.run_counting.specs.Counting.{kept_if, looked, looked_at}
use Rattle.run_listing.specs.Listings.{first_line}
use Rattle.exchange_steps.specs.declared.Slot.{Slot}
use Rattle.exchange_steps.specs.declared.Slot.TheVariants.{Idle}
use Rattle.run_verdicts.specs.declared.Verdict.{Verdict}
use Rattle.run_verdicts.specs.Verdicts.{slot_after, told_to, slot_of, verdict_after, verdicts_from, verdicts_of}
use Rattle.demands.proofs.Laws.Bundle.{byte_at}
use Rattle.demands.proofs.Laws.Refusals.{reads_by, refuse_by, follow_by, more, bundle_by}
use Rattle.demands.proofs.Laws.Replay.{others_not_looked_at, same_rows_same_replay}
use Rattle.demands.proofs.Laws.Settled.{two_equations, equation, gives_settled}
use Rattle.demands.proofs.Laws.Sweep.{listing_by_records}
use Rattle.demands.proofs.Laws.Unchanged.{gives_untouched}
use Rattle.demands.specs.OfPosition.{OwnRowsAreChosen, OnlyOwnRows, picked_for, verdicts_at, new, own, OwnNoLonger, BehindAsItWas}
use Rattle.demands.specs.OfPosition.{OwnAccepted, OwnHeld, OwnPlaces, OwnVerdicts, OwnReplay, OwnListing, BundleFirst, PositionNext, bytes_for, RoomLast}
use Rattle.demands.specs.OfPosition.{ChoosingBy, ChosenApart, WholeIsEnough, ChoosingSettled, ChoosingForCSettled, ChoosingRefused, ChoosingForCRefused}
use Rattle.demands.specs.OfPosition.{ExampleChosen}
use Rattle.demands.specs.Refusals.{bundle_numbers}
use Rattle.demands.specs.Sweep.{record_line}

pub own_rows_are_chosen : OwnRowsAreChosen
unfolding without
own_rows_are_chosen = record {
  none = λ position. refl;
  own = λ position k ks e. rw (eq-eqb k.position position e);
  other = λ position k ks f. rw (ne_eqb k.position position f);
}

pub only_own_rows : OnlyOwnRows
unfolding without
only_own_rows program p position [] = p.none position
only_own_rows program p position (k ∷ ks) =
    by_test (eqb k.position position)
    (λ t. rw t
    (p.own position k ks (eqb-true k.position position t) ∙ ap (λ (l : List Recorded). k ∷ l) (only_own_rows program p position ks)))
    (λ t. rw t (p.other position k ks (eqb-false k.position position t) ∙ only_own_rows program p position ks))

-- ---- verdicts and looks go by the rows of the position alone

own_slot : (position : ℕ) (s : Slot) (ks : List Recorded) → end_of (told_to position) s (of_position position ks) ≡ end_of (told_to position) s ks
unfolding without end_of
own_slot position s [] = refl
own_slot position s (k ∷ ks) =
    by_test (eqb k.position position) (λ t. rw (t, t) (own_slot position (slot_after s k) ks)) (λ t. rw t (own_slot position s ks))

verdicts_on : (position : ℕ) (before ks : List Recorded)
    → picked_for position ks (verdicts_from before ks) ≡ verdicts_from (of_position position before) (of_position position ks)
unfolding without verdicts_from
verdicts_on position before [] = refl
verdicts_on position before (k ∷ ks) =
    let rest = verdicts_on position (before ++ (k ∷ [])) ks in
    let split = without_append (elsewhere position) before (k ∷ []) in
    let start : List Recorded = of_position position before in
    by_test (eqb k.position position)
    (λ t. let here : k.position ≡ position = eqb-true k.position position t in
    let slot : slot_of k.position before ≡ slot_of k.position start =
    ap (λ (p : ℕ). slot_of p before) here ∙ sym (own_slot position Idle before) ∙ ap (λ (p : ℕ). slot_of p start) (sym here) in
    let more : of_position position (before ++ (k ∷ [])) ≡ start ++ (k ∷ []) =
    split ∙ ap (λ (l : List Recorded). start ++ l) (own_rows_are_chosen.own position k [] here) in
    rw t
    (ap₂ (λ (v : Verdict) (vs : List Verdict). v ∷ vs) (ap (λ (x : Slot). verdict_after x k) slot)
    (rest ∙ ap (λ (l : List Recorded). verdicts_from l (of_position position ks)) more)))
    (λ t. let more : of_position position (before ++ (k ∷ [])) ≡ start =
    split ∙ ap (λ (l : List Recorded). start ++ l) (own_rows_are_chosen.other position k [] (eqb-false k.position position t)) ∙ append-nil start in
    rw t (rest ∙ ap (λ (l : List Recorded). verdicts_from l (of_position position ks)) more))

pub own_verdicts_same : (position : ℕ) (ks : List Recorded) → verdicts_at position ks ≡ verdicts_of (of_position position ks)
unfolding without
own_verdicts_same position ks = verdicts_on position [] ks

pub own_looked : (position : ℕ) (ks : List Recorded) → looked_at position (of_position position ks) ≡ looked_at position ks
unfolding without looked_at
own_looked position [] = refl
own_looked position (k ∷ ks) =
    by_test (eqb k.position position) (λ t. rw t (ap (kept_if (looked position k) k) (own_looked position ks)))
    (λ t. rw (t, (others_not_looked_at position k).0 (eqb-false k.position position t)) (own_looked position ks))

-- ---- where it is done

module _ (b : List ℕ) (position : ℕ) (out : List ℕ) (n : ℕ) (done : choosing_of b position out ≡ reads n) (bytes : Bytes b) where
  c : proper.Chose b position out n
  c = proper.chose b position out n done

  abbrev mine : List Recorded
  mine = own b position out n done bytes

  new_is : new b position out n done bytes ≡ bundle_of mine
  new_is = take_at (bundle_of mine) (drop (length (bundle_of mine)) out) n (sym c.size)

  pub own_no_longer : OwnNoLonger b position out n done bytes
  own_no_longer = omega (arith, c.size, length_bundle mine, own_fits position b c.rows c.accepted)

  pub behind_as_it_was : BehindAsItWas b position out n done bytes
  behind_as_it_was =
      drop_at (bundle_of mine) (drop (length (bundle_of mine)) out) n (sym c.size) ∙ ap (λ (k : ℕ). drop k out) (sym c.size)

  pub own_accepted : OwnAccepted b position out n done bytes
  own_accepted = ap check_of new_is ∙ proper.own_accepted position b c.rows c.accepted (byte_at b bytes)

  pub own_held : OwnHeld b position out n done bytes
  own_held = ap records_of new_is ∙ proper.own_holds position b c.rows c.accepted (byte_at b bytes)

  pub own_places : OwnPlaces b position out n done bytes
  own_places = rw new_is (contents_back mine (proper.own_holdable position b c.rows c.accepted (byte_at b bytes)))

  pub own_verdicts : OwnVerdicts b position out n done bytes
  own_verdicts = ap verdicts_of own_held ∙ sym (own_verdicts_same position (records_of b))

  pub own_replay : OwnReplay b position out n done bytes
  own_replay s1 s2 elapsed =
      same_rows_same_replay (new b position out n done bytes) b (length mine) c.rows position s1 s2 elapsed own_accepted c.accepted
      (ap (looked_at position) own_held ∙ own_looked position (records_of b))

  pub own_listing : OwnListing b position out n done bytes
  own_listing =
      listing_by_records (new b position out n done bytes) (length mine) own_accepted
      ∙ ap (λ (ks : List Recorded). first_line ++ pieces record_line ks) own_held

-- ---- when it is done

pub bundle_first : BundleFirst
unfolding choosing_of
bundle_first b position out k e = rw e

pub position_next : PositionNext
unfolding choosing_of
position_next b n position out e f =
    rw e
    (by_test (ltb position 1) (λ t. rw t)
    (λ t. by_test (ltb 48 position) (λ u. rw (t, u)) (λ u. absurd (f (ltb-false position 1 t) (ltb-false 48 position u)))))

pub room_last : RoomLast
unfolding choosing_of
room_last b n position out e l m =
    rw (e, le-ltb position 1 l, le-ltb 48 position m, length_bundle (of_position position (records_of b)))

pub whole_is_enough : WholeIsEnough
whole_is_enough b n position out e l m h =
    room_last b n position out e l m
    ∙ rw (le-ltb (length out) (bytes_for (of_position position (records_of b))) (omega (arith, own_fits position b n e)))

-- ---- what is settled, and what a refusal leaves

pub choosing_settled : ChoosingSettled
choosing_settled b position out x y p q = two_equations _ _ x y (p.answer, p.left) (q.answer, q.left)

pub choosing_for_c_settled : ChoosingForCSettled
choosing_for_c_settled b position out filled x y p q i =
    (gives_settled _ filled x.0 y.0 p.gives q.gives i, equation _ x.1 y.1 p.holds q.holds i)

pub choosing_refused : ChoosingRefused
choosing_refused k b position out after r e p = p.left ∙ ap (λ (a : Answer ℕ). buffer_chosen a b position out) e

pub choosing_for_c_refused : ChoosingForCRefused
choosing_for_c_refused k b position out filled r after now e p =
    let u = gives_untouched k (choosing_of b position out) filled r now e p.gives in
    (u.number, p.holds ∙ ap (λ (a : Answer ℕ). buffer_chosen a b position out) e, u.same)

pub choosing_by : ChoosingBy
unfolding any choosing_of
choosing_by b position out =
    let ns : List ℕ = 38 ∷ bundle_numbers in
    follow_by ns (check_of b) _ (more bundle_numbers ns _ refl (bundle_by b))
    (λ n. refuse_by ns 34 (wrong_position position) _ refl
    (refuse_by ns 38 (ltb (length out) (length (position_bundle position b))) _ refl
    (reads_by ns _)))

pub chosen_apart : ChosenApart
chosen_apart = shown_same

pub example_chosen : ExampleChosen
unfolding choosing_of check_of number rows_of some_wrong end_of chars any records_in without rows_for bytes_of_rows bodies_for bytes_of
example_chosen = (refl, refl, refl, refl, refl, refl, refl, refl, refl)
