-- Two rows of distinct times that are inserted one after the other: the order makes no difference.
use Prim.Native.Nat.{ℕ, suc, ◌+◌, ◌-◌, ◌≤◌, ◌<◌}
use mathlib.Core.Bool.{false, cond}
use mathlib.Core.List.{List, [], ◌∷◌, ◌++◌}
use mathlib.Core.Path.{◌≡◌, refl, sym, ap, ap₂, ◌∙◌}
use native.Mathlib.Omega.{arith}
use borrow.Author.Tests.{ltb-true, ltb-false, lt-ltb, le-ltb, lt-leb}
use lib.Dec.{ltb}
use lib.ListN.{length, take, drop}
use lib.Seq.{drop-drop}
use Rattle.base_rules.specs.Answers.{reads}
use Rattle.base_rules.proofs.Laws.AnswerLaws.{reads_same}
use Rattle.base_rules.proofs.Laws.Tests.{by_test}
use Rattle.base_lent.proofs.Laws.Copying.{laid_length}
use Rattle.bundle_rows.specs.Lists.{All}
use Rattle.bundle_rows.specs.Fields.{wrong_field}
use Rattle.bundle_rows.specs.Rows.{most_rows}
use Rattle.bundle_check.proofs.Laws.Accepted.{accepted_sound}
use Rattle.bundle_check.specs.Bundles.{most_bytes, count_of, check_of}
use Rattle.bundle_check.specs.Records.{Recorded, records_of, bundle_of}
use Rattle.bundle_check.proofs.Laws.RecordLaws.{Timely}
use Rattle.bundle_adding.proofs.Laws.AddLaws.{room_left}
use Rattle.bundle_adding.proofs.Laws.Trying.{Tried, try_grown}
use Rattle.bundle_adding.proofs.Laws.Inserted
use Rattle.bundle_adding.proofs.Laws.Inserted.{inserted_in}
use Rattle.bundle_adding.proofs.Laws.InsertingLaws.{InOrder, all_later, none_behind, one_on, Later}
use Rattle.bundle_adding.specs.Adding.{grown, no_room}
use Rattle.bundle_adding.specs.Inserting.{place_behind, put_at, insert_of, buffer_inserted}

-- ---- in front of the first that is later
abbrev in_place : Recorded → List Recorded → List Recorded
in_place k [] = k ∷ []
in_place k (x ∷ ks) = cond (ltb k.time x.time) (k ∷ (x ∷ ks)) (x ∷ in_place k ks)

in_place_lem : (u : ℕ) (k : Recorded) (ks : List Recorded) → InOrder u ks → inserted_in k ks ≡ in_place k ks
unfolding place_behind
in_place_lem u k [] o = refl
in_place_lem u k (x ∷ ks) o =
    by_test (ltb k.time x.time)
    (λ e.
    let all : All (Later k.time) (x ∷ ks) = (ltb-true k.time x.time e, all_later k.time x.time ks (ltb-true k.time x.time e) o.1) in
    ap (λ (p : ℕ). put_at p k (x ∷ ks)) (none_behind k.time (x ∷ ks) (suc (length ks)) all (omega arith)) ∙ rw e)
    (λ e.
    ap (λ (p : ℕ). put_at p k (x ∷ ks)) (one_on k.time x ks (length ks) (ltb-false k.time x.time e))
    ∙ ap (λ (l : List Recorded). x ∷ l) (in_place_lem x.time k ks o.1) ∙ rw e)

in_order_place : (u : ℕ) (k : Recorded) (ks : List Recorded) → u ≤ k.time → InOrder u ks → InOrder u (in_place k ks)
in_order_place u k [] h o = (h, tt)
in_order_place u k (x ∷ ks) h o =
    by_test (ltb k.time x.time) (λ e. rw e (h, (omega (arith, ltb-true k.time x.time e), o.1)))
    (λ e. rw e (o.0, in_order_place x.time k ks (ltb-false k.time x.time e) o.1))

places_commute : (j k : Recorded) (ks : List Recorded) → j.time < k.time → in_place j (in_place k ks) ≡ in_place k (in_place j ks)
places_commute j k [] h = rw (lt-ltb j.time k.time h, le-ltb k.time j.time (omega arith))
places_commute j k (x ∷ ks) h =
    by_test (ltb k.time x.time)
    (λ e.
    rw (
      e,
      lt-ltb j.time k.time h,
      lt-ltb j.time x.time (omega (arith, ltb-true k.time x.time e)),
      le-ltb k.time j.time (omega arith),
      e,
    ))
    (λ e.
    by_test (ltb j.time x.time) (λ f. rw (e, f, le-ltb k.time j.time (omega arith), e))
    (λ f. rw (e, f, e) (ap (λ (l : List Recorded). x ∷ l) (places_commute j k ks h))))

pub inserted_commute : (j k : Recorded) (ks : List Recorded) → InOrder 0 ks → j.time < k.time → inserted_in j (inserted_in k ks)
    ≡ inserted_in k (inserted_in j ks)
inserted_commute j k ks o h =
    ap (inserted_in j) (in_place_lem 0 k ks o) ∙ in_place_lem 0 j (in_place k ks) (in_order_place 0 k ks (omega arith) o) ∙ places_commute j k ks h
    ∙ sym (ap (inserted_in k) (in_place_lem 0 j ks o) ∙ in_place_lem 0 k (in_place j ks) (in_order_place 0 j ks (omega arith) o))

distinct_commute : (j k : Recorded) (ks : List Recorded) → InOrder 0 ks → (j.time ≡ k.time → ⊥) → inserted_in j (inserted_in k ks)
    ≡ inserted_in k (inserted_in j ks)
distinct_commute j k ks o d =
    by_test (ltb j.time k.time) (λ e. inserted_commute j k ks o (ltb-true j.time k.time e))
    (λ e.
    by_test (ltb k.time j.time) (λ f. sym (inserted_commute k j ks o (ltb-true k.time j.time f)))
    (λ f. absurd (d (omega (arith, ltb-false j.time k.time e, ltb-false k.time j.time f)))))

-- ---- in a buffer

-- what it holds once a row was inserted
abbrev after : List ℕ → ℕ → Recorded → ℕ → List ℕ
after buffer filled k n = buffer_inserted (reads n) buffer filled k

pub length_after : (buffer : List ℕ) (filled : ℕ) (k : Recorded) (n : ℕ) → insert_of buffer filled k ≡ reads n → length (after buffer filled k n) ≡ length buffer
length_after buffer filled k n e =
    let t = Inserted.t buffer filled k n e in
    let size : length (bundle_of (inserted_in k (records_of (take filled buffer)))) ≡ n = Inserted.size_all buffer filled k n e in
    laid_length buffer (bundle_of (inserted_in k (records_of (take filled buffer)))) 0
    (omega (arith, size, t.size, room_left buffer t.rows (grown filled k) t.room))

pub room_there : (buffer : List ℕ) (n m : ℕ) → n < most_rows → m ≤ length buffer → m ≤ most_bytes → no_room buffer n m ≡ false
room_there buffer n m h l b = rw (lt-leb most_rows n h, le-ltb (length buffer) m l, le-ltb most_bytes m b)

module _ (buffer : List ℕ) (filled : ℕ) (times : All Timely (records_of (take filled buffer))) (j k : Recorded) (timely : Timely j) (n m : ℕ)
    (e : insert_of buffer filled j ≡ reads n) (f : insert_of (after buffer filled j n) n k ≡ reads m) where
  first : Tried (wrong_field j.position j.direction (length j.body)) buffer filled j n
  first = Inserted.t buffer filled j n e

  second : Tried (wrong_field k.position k.direction (length k.body)) (after buffer filled j n) n k m
  second = Inserted.t (after buffer filled j n) n k m f

  -- both at once
  pub twice_is : after (after buffer filled j n) n k m ≡ bundle_of (inserted_in k (inserted_in j (records_of (take filled buffer)))) ++ drop m buffer
  twice_is =
      let past : n + (m - n) ≡ m = omega (arith, second.size) in
      ap₂ (λ (l : List Recorded) (i : ℕ). bundle_of (inserted_in k l) ++ drop i (after buffer filled j n))
      (Inserted.insert-records buffer filled j n e times timely) (Inserted.size_all (after buffer filled j n) n k m f)
      ∙ ap (λ (l : List ℕ). bundle_of (inserted_in k (inserted_in j (records_of (take filled buffer)))) ++ l)
      (sym (drop-drop (m - n) n (after buffer filled j n) ∙ ap (λ (i : ℕ). drop i (after buffer filled j n)) past)
      ∙ ap (drop (m - n)) (Inserted.past_stays buffer filled j n e) ∙ drop-drop (m - n) n buffer ∙ ap (λ (i : ℕ). drop i buffer) past)

  rows_one : second.rows ≡ count_of (take filled buffer) + 1
  rows_one = reads_same (sym second.old ∙ Inserted.insert-accepted buffer filled j n e times timely)

  rows_are : first.rows ≡ count_of (take filled buffer)
  rows_are = (accepted_sound (take filled buffer) first.rows first.old).1

  room_second : (second.rows < most_rows) × (grown n k ≤ length (after buffer filled j n)) × (grown n k ≤ most_bytes)
  room_second = room_left (after buffer filled j n) second.rows (grown n k) second.room

  -- the other one first
  pub other_first : insert_of buffer filled k ≡ reads (grown filled k)
  other_first =
      try_grown (wrong_field k.position k.direction (length k.body)) buffer filled k first.rows first.inside first.old second.right
      second.range
      (room_there buffer first.rows (grown filled k) (omega (arith, rows_are, rows_one, room_second))
      (omega (arith, room_second, first.size, length_after buffer filled j n e)) (omega (arith, room_second, first.size)))

  module _ (timely-k : Timely k) where
    abbrev other : List ℕ
    other = after buffer filled k (grown filled k)

    pub then_this : insert_of other (grown filled k) j ≡ reads m
    then_this =
        let accepted : check_of (take (grown filled k) other) ≡ reads (count_of (take filled buffer) + 1) =
        Inserted.insert-accepted buffer filled k (grown filled k) other_first times timely-k in
        let same : length other ≡ length buffer = length_after buffer filled k (grown filled k) other_first in
        let whole : length (after buffer filled j n) ≡ length buffer = length_after buffer filled j n e in
        let last : grown (grown filled k) j ≡ m = omega (arith, first.size, second.size) in
        try_grown (wrong_field j.position j.direction (length j.body)) other (grown filled k) j (count_of (take filled buffer) + 1)
        (omega (arith, same, whole, room_second, first.size)) accepted first.right first.range
        (room_there other (count_of (take filled buffer) + 1) (grown (grown filled k) j) (omega (arith, rows_one, room_second))
        (omega (arith, same, whole, room_second, second.size)) (omega (arith, room_second, second.size)))
        ∙ ap reads last

pub orders_same : (buffer : List ℕ) (filled : ℕ) (times : All Timely (records_of (take filled buffer))) (j k : Recorded) (tj : Timely j) (tk : Timely k)
    (n m : ℕ) (e : insert_of buffer filled j ≡ reads n) (f : insert_of (after buffer filled j n) n k ≡ reads m) → (j.time ≡ k.time → ⊥)
    → after (after buffer filled k (grown filled k)) (grown filled k) j m ≡ after (after buffer filled j n) n k m
orders_same buffer filled times j k tj tk n m e f d =
    twice_is buffer filled times k j tk (grown filled k) m (other_first buffer filled times j k tj n m e f) (then_this buffer filled times j k tj n m e f tk)
    ∙ ap (λ (l : List Recorded). bundle_of l ++ drop m buffer)
    (distinct_commute j k (records_of (take filled buffer)) (Inserted.ordered buffer filled j n e times) d)
    ∙ sym (twice_is buffer filled times j k tj n m e f)
