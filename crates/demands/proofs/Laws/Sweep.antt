-- Proofs of the statements of specs/Sweep.
use Prim.Native.Nat.{ℕ, ◌+◌, ◌≤◌, ◌<◌}
use mathlib.Core.Bool.{Bool, true, false}
use mathlib.Core.List.{List, [], ◌∷◌, ◌++◌, map}
use mathlib.Core.Path.{◌≡◌, refl, sym, ap, ◌∙◌}
use native.Mathlib.Omega.{arith}
use borrow.Author.Tests.{le-ltb, ltb-false}
use lib.Dec.{ltb}
use lib.ListN.{length}
use Rattle.base_lent.specs.Pieces.{pieces}
use Rattle.base_numbers.specs.Numbers.{number, bytes_of}
use Rattle.base_rules.specs.Answers.{Answer, reads, refusal}
use Rattle.base_rules.specs.Bytes.{Bytes}
use Rattle.base_characters.specs.Characters.{over, chars}
use Rattle.base_rules.specs.Lists.{any}
use Rattle.base_rules.proofs.Laws.Tests.{by_test, neither}
use Rattle.bench_clock.specs.Wakes.{is_wake}
use Rattle.bundle_rows.specs.Fields.{wrong_field}
use Rattle.bundle_rows.specs.Lists.{All}
use Rattle.bundle_rows.specs.Rows.{rows_of, bytes_of_rows}
use Rattle.bundle_rows.specs.declared.Row.{Row}
use Rattle.bundle_check.specs.Bundles.{contents_of, bodies_of, check_of}
use Rattle.bundle_check.specs.Records.{Recorded, records_in, records_of, row_for, rows_for, bodies_for, record_time}
use Rattle.bundle_check.specs.RowRules.{wrong_row}
use Rattle.bundle_check.specs.Walks.{some_wrong, end_of}
use Rattle.bundle_check.proofs.Laws.Accepted.{accepted_sound}
use Rattle.bundle_check.proofs.Laws.BodyLaws.{times_end}
use Rattle.bundle_check.proofs.Laws.HoldingLaws.{record_for, records_held, holdable_held}
use Rattle.bundle_check.proofs.Laws.RecordLaws.{Timely}
use Rattle.bundle_adding.specs.Adding.{last_time, grown, no_room, add_of}
use Rattle.bundle_adding.proofs.Laws.AddingLaws.{bytes_timely}
use Rattle.bundle_adding.proofs.Laws.AddLaws as adding
use Rattle.run_listing.specs.Listings.{lines_for, first_line, listed, listing_of}
use Rattle.run_counting.specs.Counting.{looked, kept_if, looked_at}
use Rattle.bundle_sweep.specs.Sweeping.{goes, removed, without, swept, sweep_of}
use Rattle.bundle_sweep.proofs.Laws.Going as going
use Rattle.bundle_sweep.proofs.Laws.Proper as proper
use Rattle.demands.proofs.Laws.Bundle.{byte_at}
use Rattle.demands.proofs.Laws.Replay.{others_not_looked_at, same_rows_same_replay}
use Rattle.demands.specs.Sweep.{WakeRowsGo, NamedRowsGo, OthersStay, SweptSweeps, OnlySwept, RemovesNothing, RemovesEverything, record_line}
use Rattle.demands.specs.Sweep.{ListingByRecords, NoLonger, PastTheEnd, LeftAccepted, LeftHolds, LeftRows, LeftListed}
use Rattle.demands.specs.Sweep.{ReplayAsBefore, SweptTwice, AddingAfter, FitsAfterwards, ExampleSwept}
use Rattle.demands.specs.Sweep as sayings

pub wake_rows_go : WakeRowsGo
wake_rows_go = going.wake_goes

pub named_rows_go : NamedRowsGo
named_rows_go = going.named_goes

pub others_stay : OthersStay
others_stay = going.other_stays

pub swept_sweeps : SweptSweeps
unfolding without
swept_sweeps = record { none = λ position. refl; goes = λ position k ks e. rw e; stays = λ position k ks e. rw e }

pub only_swept : OnlySwept
unfolding without
only_swept program p position [] = p.none position
only_swept program p position (k ∷ ks) =
    by_test (removed position k)
    (λ e. rw e (p.goes position k ks e ∙ only_swept program p position ks))
    (λ e. rw e (p.stays position k ks e ∙ ap (λ (l : List Recorded). k ∷ l) (only_swept program p position ks)))

-- So neither one that removes nothing nor one that removes everything.
abbrev seventh : Recorded
seventh = record { position = 7; direction = 1; time = 0; body = 0xE5 ∷ 0x01 ∷ [] }

pub removes_nothing : RemovesNothing
unfolding goes
removes_nothing p = omega (arith, ap length (p.goes 7 seventh [] (named_rows_go 7 seventh (omega arith) refl)))

pub removes_everything : RemovesEverything
unfolding goes is_wake chars
removes_everything p = omega (arith, ap length (p.stays 0 seventh [] refl))

lines_recorded : (b : List ℕ) (rows : List Row) → lines_for b rows ≡ pieces record_line (map (record_for b) rows)
unfolding lines_for
lines_recorded b [] = refl
lines_recorded b (r ∷ rows) = ap (λ (l : List ℕ). record_line (record_for b r) ++ l) (lines_recorded b rows)

pub listing_by_records : ListingByRecords
unfolding listing_of
listing_by_records b n e =
    ap (listed b) e
    ∙ ap (λ (l : List ℕ). first_line ++ l) (lines_recorded b (contents_of b) ∙ ap (pieces record_line) (sym (records_held b (accepted_sound b n e).0)))

-- A row that goes is not looked at in the replay of a position that is not named.
not_looked : (position other : ℕ) (k : Recorded) → (other ≡ position → position ≡ 0) → removed position k ≡ true → looked other k ≡ false
not_looked position other k f e =
    by_test (is_wake (chars k.body)) (λ w. (others_not_looked_at other k).1 w)
    (λ w. let p = going.goes_named position k e w in (others_not_looked_at other k).0 (λ s. p.0 (f (sym s ∙ p.1))))

same_looked : (position other : ℕ) → (other ≡ position → position ≡ 0) → (ks : List Recorded) → looked_at other (swept position ks) ≡ looked_at other ks
unfolding without looked_at
same_looked position other f [] = refl
same_looked position other f (k ∷ ks) =
    by_test (removed position k)
    (λ e. rw (e, not_looked position other k f e) (same_looked position other f ks))
    (λ e. rw e (ap (kept_if (looked other k) k) (same_looked position other f ks)))

module _ (buffer : List ℕ) (filled position n : ℕ) (cleared : sweep_of buffer filled position ≡ reads n) (bytes : Bytes buffer) where
  abbrev old : List ℕ
  old = sayings.old buffer filled position n cleared bytes

  abbrev after : List ℕ
  after = sayings.after buffer filled position n cleared bytes

  abbrev new : List ℕ
  new = sayings.new buffer filled position n cleared bytes

  abbrev left : List Recorded
  left = sayings.left buffer filled position n cleared bytes

  c : proper.Cleared buffer filled position n
  c = proper.cleared buffer filled position n cleared

  times : All Timely (records_of old)
  times = bytes_timely buffer filled c.rows (byte_at buffer bytes) c.old

  pub no_longer : NoLonger buffer filled position n cleared bytes
  no_longer = proper.sweep_fits buffer filled position n cleared

  pub past_the_end : PastTheEnd buffer filled position n cleared bytes
  past_the_end = proper.past_the_end buffer filled position n cleared

  pub left_accepted : LeftAccepted buffer filled position n cleared bytes
  left_accepted = proper.sweep_accepted buffer filled position n cleared times

  pub left_holds : LeftHolds buffer filled position n cleared bytes
  left_holds = proper.sweep_holds buffer filled position n cleared times

  pub left_rows : LeftRows buffer filled position n cleared bytes
  left_rows = proper.sweep_rows buffer filled position n cleared times

  pub left_listed : LeftListed buffer filled position n cleared bytes
  left_listed = listing_by_records new (length left) left_accepted ∙ ap (λ (ks : List Recorded). first_line ++ pieces record_line ks) left_holds

  pub replay_as_before : ReplayAsBefore buffer filled position n cleared bytes
  replay_as_before other s1 s2 elapsed f =
      same_rows_same_replay new old (length left) c.rows other s1 s2 elapsed left_accepted c.old
      (ap (looked_at other) left_holds ∙ same_looked position other f (records_of old))

  pub swept_twice : SweptTwice buffer filled position n cleared bytes
  swept_twice = (
    proper.twice_answers buffer filled position n cleared times,
    proper.twice_leaves buffer filled position n cleared times,
  )

  inside : n ≤ length after
  inside = omega (arith, no_longer, c.inside, proper.same_room buffer filled position n cleared)

  last : last_time (contents_of new) ≡ end_of record_time 0 left
  last = sym (times_end 0 (contents_of new) (bodies_of new)) ∙ ap (end_of record_time 0) left_holds

  same_room : (rows m : ℕ) → no_room after rows m ≡ no_room buffer rows m
  same_room rows m = rw (proper.same_room buffer filled position n cleared)

  pub adding_after : AddingAfter buffer filled position n cleared bytes
  adding_after k =
      let wrong : Bool = wrong_row (end_of record_time 0 left) (row_for (n + 12) k) in
      let wide : Bool = any over (chars k.body) in
      let at_last : wrong_row (last_time (contents_of new)) (row_for (n + 12) k) ≡ wrong = ap (λ (t : ℕ). wrong_row t (row_for (n + 12) k)) last in
      let room : no_room after (length left) (grown n k) ≡ no_room buffer (length left) (grown n k) = same_room (length left) (grown n k) in
      by_test wrong
      (λ p. rw p (adding.add_wrong after n k (length left) inside left_accepted (at_last ∙ p)))
      (λ p. by_test wide
      (λ q. rw (p, q) (adding.add_wide after n k (length left) inside left_accepted (at_last ∙ p) q))
      (λ q. by_test (no_room buffer (length left) (grown n k))
      (λ r. rw (p, q, r) (adding.add_full after n k (length left) inside left_accepted (at_last ∙ p) q (room ∙ r)))
      (λ r. rw (p, q, r) (adding.add_grown after n k (length left) inside left_accepted (at_last ∙ p) q (room ∙ r)))))

  pub fits_afterwards : FitsAfterwards buffer filled position n cleared bytes
  fits_afterwards k e room =
      let before : ℕ = last_time (contents_of old) in
      let field : Bool = wrong_field k.position k.direction (length k.body) in
      let wrong : wrong_row before (row_for (filled + 12) k) ≡ false = by_test (wrong_row before (row_for (filled + 12) k))
      (λ p. absurd (another 34 (omega arith) (adding.add_wrong buffer filled k c.rows c.inside c.old p))) (λ p. p) in
      let wide : any over (chars k.body) ≡ false = by_test (any over (chars k.body))
      (λ p. absurd (another 37 (omega arith) (adding.add_wide buffer filled k c.rows c.inside c.old wrong p))) (λ p. p) in
      let parts = neither field (ltb k.time before) wrong in
      let lower : end_of record_time 0 left ≤ before = earlier in
      let right : wrong_row (end_of record_time 0 left) (row_for (n + 12) k) ≡ false =
      rw parts.0 (le-ltb k.time (end_of record_time 0 left) (omega (arith, ltb-false k.time before parts.1))) in
      adding_after k ∙ rw (right, wide, room)
    where
      another : (m : ℕ) → m < 38 → add_of buffer filled k ≡ refusal m → ⊥
      another m h f =
          let same : ◌≡◌ {A = Answer ℕ} (refusal 38) (refusal m) = sym e ∙ f in
          let number : 38 ≡ m = cc in
          omega arith

      earlier : end_of record_time 0 left ≤ last_time (contents_of old)
      earlier =
          rw (← times_end 0 (contents_of old) (bodies_of old))
          (proper.last_left (removed position) 0 0 (records_of old) (omega arith)
          (holdable_held old (accepted_sound old c.rows c.old).0 times).fields)

pub example_swept : ExampleSwept
unfolding sweep_of check_of number rows_of some_wrong end_of chars any records_in without goes is_wake rows_for bytes_of_rows bodies_for bytes_of
example_swept = (refl, refl, refl, refl, refl, refl, refl, refl)
