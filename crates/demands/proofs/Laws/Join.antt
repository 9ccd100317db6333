-- Proofs of the statements of specs/Join.
use Prim.Native.Nat.{ℕ, ◌+◌, ◌-◌}
use mathlib.Core.List.{List, [], ◌∷◌, ◌++◌}
use mathlib.Core.Path.{◌≡◌, refl, sym, ap, ◌∙◌}
use native.Mathlib.Numerals.{add-one}
use native.Mathlib.Omega.{arith}
use borrow.Author.Tests.{le-ltb, lt-ltb, ltb-true, ltb-false}
use lib.Dec.{ltb}
use lib.ListN.{length, drop}
use lib.Seq.{take_at, drop_at}
use Rattle.base_characters.specs.Characters.{chars}
use Rattle.base_lent.specs.Pieces.{pieces}
use Rattle.base_numbers.specs.Numbers.{number, bytes_of}
use Rattle.base_rules.specs.Answers.{Answer, reads}
use Rattle.base_rules.specs.Bytes.{Bytes}
use Rattle.base_rules.specs.Lists.{any}
use Rattle.base_rules.proofs.Laws.Tests.{by_test}
use Rattle.bundle_rows.specs.Rows.{rows_of, bytes_of_rows}
use Rattle.bundle_check.specs.Bundles.{check_of}
use Rattle.bundle_check.specs.Records.{Recorded, records_in, records_of, rows_for, bodies_for, bundle_of}
use Rattle.bundle_check.specs.Walks.{some_wrong, end_of}
use Rattle.bundle_check.proofs.Laws.RecordLaws.{contents_back}
use Rattle.bundle_joining.specs.Choosing.{elsewhere, of_position}
use Rattle.bundle_joining.proofs.Laws.Rows.{held_count}
use Rattle.bundle_joining.specs.Joining.{in_turn, by_time, joined_bundle, too_much, join_of}
use Rattle.bundle_joining.specs.JoinShown.{buffer_joined}
use Rattle.bundle_joining.proofs.Laws.ByTime.{none_first_lem, none_second_lem, second_next, first_next, by_time_length, first_left, second_left}
use Rattle.bundle_joining.proofs.Laws.Joining.{both_size, both_filled}
use Rattle.bundle_joining.proofs.Laws.Parts as parts
use Rattle.bundle_joining.proofs.Laws.JoinProper as proper
use Rattle.base_rules.proofs.Laws.AnswerLaws.{shown_same}
use Rattle.run_counting.specs.Counting.{looked_at}
use Rattle.run_listing.specs.Listings.{first_line}
use Rattle.run_verdicts.specs.Verdicts.{verdicts_of}
use Rattle.demands.proofs.Laws.Bundle.{byte_at}
use Rattle.demands.proofs.Laws.OfPosition.{own_verdicts_same, own_looked}
use Rattle.demands.proofs.Laws.Refusals.{reads_by, refuse_by, follow_by, more, bundle_by}
use Rattle.demands.proofs.Laws.Replay.{same_rows_same_replay}
use Rattle.demands.proofs.Laws.Settled.{two_equations, equation, gives_settled}
use Rattle.demands.proofs.Laws.Sweep.{listing_by_records}
use Rattle.demands.proofs.Laws.Unchanged.{gives_untouched}
use Rattle.demands.specs.Join.{JoinsRows, RowsAreJoined, OnlyByTime, after, new, both, BothButOneCount, BehindAsBefore, BothAccepted, BothHeld}
use Rattle.demands.specs.Join.{BothPlaces, BothListed, RowsOfOne, VerdictsOfOne, ReplayOfOne, FirstBefore, SecondRefusedNext, MuchLast, AllGiveItBack}
use Rattle.demands.specs.Join.{AllHoldTheSame, EachIsJoined, JoiningBy, JoinedApart, JoiningSettled, JoiningForCSettled, JoiningRefused}
use Rattle.demands.specs.Join.{JoiningForCRefused, ExampleJoined}
use Rattle.demands.specs.OfPosition.{verdicts_at}
use Rattle.demands.specs.Refusals.{bundle_numbers}
use Rattle.demands.specs.Sweep.{record_line}

pub rows_are_joined : RowsAreJoined
rows_are_joined = record {
  none_first = none_first_lem;
  none_second = none_second_lem;
  earlier = λ k ks l ls h. second_next k ks l ls (lt-ltb l.time k.time h);
  not_earlier = λ k ks l ls h. first_next k ks l ls (le-ltb l.time k.time h);
}

one_more : (program : List Recorded → List Recorded → List Recorded) → JoinsRows program → (k : Recorded) (ks : List Recorded)
    → ((ls : List Recorded) → program ks ls ≡ by_time ks ls) → (ls : List Recorded) → program (k ∷ ks) ls ≡ by_time (k ∷ ks) ls
one_more program p k ks rest [] = p.none_second (k ∷ ks) ∙ sym (none_second_lem (k ∷ ks))
one_more program p k ks rest (l ∷ ls) =
    by_test (ltb l.time k.time)
    (λ t. p.earlier k ks l ls (ltb-true l.time k.time t) ∙ ap (λ (r : List Recorded). l ∷ r) (one_more program p k ks rest ls)
    ∙ sym (second_next k ks l ls t))
    (λ t. p.not_earlier k ks l ls (ltb-false l.time k.time t) ∙ ap (λ (r : List Recorded). k ∷ r) (rest (l ∷ ls)) ∙ sym (first_next k ks l ls t))

pub only_by_time : OnlyByTime
only_by_time program p [] ls = p.none_first ls ∙ sym (none_first_lem ls)
only_by_time program p (k ∷ ks) ls = one_more program p k ks (λ m. only_by_time program p ks m) ls

-- ---- where it is done

module _ (a b out : List ℕ) (n : ℕ) (done : join_of a b out ≡ reads n) (in-a : Bytes a) (in_b : Bytes b) where
  c : proper.Merged a b out n
  c = proper.merged a b out n done

  abbrev all : List Recorded
  all = both a b out n done in-a in_b

  abbrev made : List ℕ
  made = new a b out n done in-a in_b

  new_is : made ≡ bundle_of all
  new_is = take_at (bundle_of all) (drop (length (bundle_of all)) out) n (sym c.size)

  pub both_but_one_count : BothButOneCount a b out n done in-a in_b
  both_but_one_count = omega (arith, c.size, both_size a c.m b c.n c.fit.first c.fit.second)

  pub behind_as_before : BehindAsBefore a b out n done in-a in_b
  behind_as_before = drop_at (bundle_of all) (drop (length (bundle_of all)) out) n (sym c.size) ∙ ap (λ (k : ℕ). drop k out) (sym c.size)

  accepted : check_of made ≡ reads (length all)
  accepted = ap check_of new_is ∙ proper.both_accepted a b out n done (byte_at a in-a) (byte_at b in_b)

  pub both_accepted : BothAccepted a b out n done in-a in_b
  both_accepted = accepted ∙ ap reads (by_time_length (records_of a) (records_of b))

  pub both_held : BothHeld a b out n done in-a in_b
  both_held = ap records_of new_is ∙ proper.both_holds a b out n done (byte_at a in-a) (byte_at b in_b)

  pub both_places : BothPlaces a b out n done in-a in_b
  both_places = rw new_is (contents_back all (proper.both_holdable a b out n done (byte_at a in-a) (byte_at b in_b)))

  pub both_listed : BothListed a b out n done in-a in_b
  both_listed = listing_by_records made (length all) accepted ∙ ap (λ (ks : List Recorded). first_line ++ pieces record_line ks) both_held

  pub rows_of_one : RowsOfOne a b out n done in-a in_b
  rows_of_one position = (
    λ e. ap (of_position position) both_held ∙ first_left (elsewhere position) (records_of a) (records_of b) e,
    λ e. ap (of_position position) both_held ∙ second_left (elsewhere position) (records_of a) (records_of b) e,
  )

  same_verdicts : (position : ℕ) (ks : List Recorded) → of_position position (records_of made) ≡ of_position position ks
      → verdicts_at position (records_of made) ≡ verdicts_at position ks
  same_verdicts position ks e = own_verdicts_same position (records_of made) ∙ ap verdicts_of e ∙ sym (own_verdicts_same position ks)

  pub verdicts_of_one : VerdictsOfOne a b out n done in-a in_b
  verdicts_of_one position = (
    λ e. same_verdicts position (records_of a) ((rows_of_one position).0 e),
    λ e. same_verdicts position (records_of b) ((rows_of_one position).1 e),
  )

  same_looked : (position : ℕ) (ks : List Recorded) → of_position position (records_of made) ≡ of_position position ks
      → looked_at position (records_of made) ≡ looked_at position ks
  same_looked position ks e = sym (own_looked position (records_of made)) ∙ ap (looked_at position) e ∙ own_looked position ks

  pub replay_of_one : ReplayOfOne a b out n done in-a in_b
  replay_of_one position s1 s2 elapsed = (
    λ e. same_rows_same_replay made a (length all) c.m position s1 s2 elapsed accepted c.fit.first
        (same_looked position (records_of a) ((rows_of_one position).0 e)),
    λ e. same_rows_same_replay made b (length all) c.n position s1 s2 elapsed accepted c.fit.second
        (same_looked position (records_of b) ((rows_of_one position).1 e)),
  )

-- ---- when it is done

pub first_before : FirstBefore
unfolding join_of
first_before a b out k e = rw e

pub second_refused_next : SecondRefusedNext
unfolding join_of
second_refused_next a b out m k e f = rw (e, f)

pub much_last : MuchLast
unfolding join_of
much_last a b out m n e f = rw (e, f, both_filled a m b n e f)

-- ---- the bundles of all positions

pub all_give_it_back : AllGiveItBack
all_give_it_back b n bytes e d = parts.bundles_whole b n e (byte_at b bytes) d

pub all_hold_the_same : AllHoldTheSame
all_hold_the_same b n bytes e =
    let each = byte_at b bytes in (
      parts.bundles_accepted b n e each 48
          ∙ ap reads (parts.parts_all_count (records_of b) (proper.held b n e each).fields ∙ held_count b n e),
      λ position l h. ap (of_position position) (parts.bundles_hold b n e each 48) ∙ parts.parts_own 48 position l h (records_of b),
    )

pub each_is_joined : EachIsJoined
each_is_joined b n q out bytes e room = rw (add-one q) (parts.bundles_joined_lem b n e (byte_at b bytes) q out room)

-- ---- what is settled, and what a refusal leaves

pub joining_settled : JoiningSettled
joining_settled a b out x y p q = two_equations _ _ x y (p.answer, p.left) (q.answer, q.left)

pub joining_for_c_settled : JoiningForCSettled
joining_for_c_settled a b out filled x y p q i =
    (gives_settled _ filled x.0 y.0 p.gives q.gives i, equation _ x.1 y.1 p.holds q.holds i)

pub joining_refused : JoiningRefused
joining_refused k a b out after r e p = p.left ∙ ap (λ (s : Answer ℕ). buffer_joined s a b out) e

pub joining_for_c_refused : JoiningForCRefused
joining_for_c_refused k a b out filled r after now e p =
    let u = gives_untouched k (join_of a b out) filled r now e p.gives in
    (u.number, p.holds ∙ ap (λ (s : Answer ℕ). buffer_joined s a b out) e, u.same)

pub joining_by : JoiningBy
unfolding any join_of
joining_by a b out =
    let ns : List ℕ = 38 ∷ bundle_numbers in
    follow_by ns (check_of a) _ (more bundle_numbers ns _ refl (bundle_by a))
    (λ m. follow_by ns (check_of b) _ (more bundle_numbers ns _ refl (bundle_by b))
    (λ n. refuse_by ns 38 (too_much (m + n) (length (joined_bundle a b)) out) _ refl (reads_by ns _)))

pub joined_apart : JoinedApart
joined_apart = shown_same

pub example_joined : ExampleJoined
unfolding join_of check_of number rows_of some_wrong end_of chars any records_in by_time in_turn rows_for bytes_of_rows bodies_for bytes_of
example_joined = (refl, refl, refl, refl, refl)
