-- Proofs of the statements of specs/Insert.
use Prim.Native.Nat.{ℕ, ◌%◌, ◌^◌, ◌≤◌, ◌<◌}
use mathlib.Core.Bool.{Bool, ◌||◌, or-false}
use mathlib.Core.List.{List, ◌∷◌}
use mathlib.Core.Path.{◌≡◌, refl, sym, ap, ◌∙◌}
use native.Mathlib.Omega.{arith}
use borrow.Author.Tests.{le-ltb, ne_eqb}
use lib.ListN.{length, get_or, take, drop, take-append-drop}
use Rattle.base_rules.specs.Answers.{Answer, reads, refusal, follow}
use Rattle.base_rules.specs.Bytes.{Bytes}
use Rattle.base_rules.specs.Lists.{any}
use Rattle.base_rules.proofs.Laws.ByteLaws.{each_take, each_drop}
use Rattle.base_rules.proofs.Laws.TestLaws.{not_refused}
use Rattle.base_characters.specs.Characters.{chars}
use Rattle.base_numbers.specs.Numbers.{number, bytes_of}
use Rattle.bundle_rows.specs.Lists.{All}
use Rattle.bundle_rows.specs.Fields.{wrong_field}
use Rattle.bundle_rows.specs.Rows.{rows_of, bytes_of_rows}
use Rattle.bundle_rows.proofs.Laws.RowLaws.{times_of}
use Rattle.bundle_check.specs.Bundles.{count_of, contents_of, bodies_of, check_of}
use Rattle.bundle_check.specs.Records.{blank_record, Recorded, records_in, records_of, rows_for, bodies_for}
use Rattle.bundle_check.specs.Walks.{some_wrong, end_of}
use Rattle.bundle_check.proofs.Laws.BodyLaws.{times_end}
use Rattle.bundle_check.proofs.Laws.HoldingLaws.{timely_in}
use Rattle.bundle_check.proofs.Laws.RecordLaws.{Timely}
use Rattle.bundle_adding.specs.Adding.{last_time, grown, add_of}
use Rattle.bundle_adding.specs.Inserting.{try_of, place_behind, place_for, insert_of, buffer_inserted}
use Rattle.bundle_adding.proofs.Laws.Commuting.{length_after, room_there, other_first, then_this, orders_same}
use Rattle.bundle_adding.proofs.Laws.Growing.{last_held}
use Rattle.bundle_adding.proofs.Laws.Inserted
use Rattle.bundle_adding.proofs.Laws.Inserted.{end_not_later}
use Rattle.bundle_adding.proofs.Laws.InsertingLaws.{place_parts}
use Rattle.bundle_adding.proofs.Laws.Trying.{add_is, try_grown}
use Rattle.demands.specs.Insert.{old, InsertedAccepted, InsertedHolds, InsertedBodies, InsertedPast, InsertedAsAdded, insert_all, Distinct}
use Rattle.demands.specs.Insert.{Reordered, same, behind, swapped, then, AnyOrder, InsertSucceeds, InsertOrder, InsertingBy, InsertingSettled}
use Rattle.demands.specs.Insert.{InsertSettled, InsertingUnchanged, InsertUnchanged, ExampleInserted}
use Rattle.demands.proofs.Laws.Bundle.{byte_at}
use Rattle.demands.proofs.Laws.Refusals.{trying_by}
use Rattle.demands.proofs.Laws.Settled.{equation, two_equations, gives_settled}
use Rattle.demands.proofs.Laws.Unchanged.{gives_untouched}

-- the times of lent bytes fit
times_fit : (b : List ℕ) (n : ℕ) → Bytes b → All Timely (records_of (take n b))
times_fit b n bytes =
    let b' = take n b in
    timely_in (contents_of b') (bodies_of b') (times_of (count_of b') (drop 2 b') (each_drop 2 b' (each_take n b (byte_at b bytes))))

module _ (buffer : List ℕ) (filled : ℕ) (k : Recorded) (n : ℕ) (inserted : insert_of buffer filled k ≡ reads n) (bytes : Bytes buffer)
    (time : k.time < 256 ^ 4) where
  times : All Timely (records_of (take filled buffer))
  times = times_fit buffer filled bytes

  pub inserted_accepted : InsertedAccepted buffer filled k n inserted bytes time
  inserted_accepted = Inserted.insert-accepted buffer filled k n inserted times time

  pub inserted_holds : InsertedHolds buffer filled k n inserted bytes time
  inserted_holds =
      let ks : List Recorded = records_of (take filled buffer) in
      let parts = place_parts k.time 0 ks (Inserted.ordered buffer filled k n inserted times) in
      record {
        front = take (place_for k ks) ks;
        behind = drop (place_for k ks) ks;
        old = sym (take-append-drop (place_for k ks) ks);
        new = Inserted.insert-records buffer filled k n inserted times time;
        not_later = parts.0;
        later = parts.1;
      }

  pub inserted_bodies : InsertedBodies buffer filled k n inserted bytes time
  inserted_bodies i h =
      Inserted.insert-bodies buffer filled k n inserted times time i h
      ∙ ap (λ (l : List Recorded). (get_or l i blank_record).body) (sym (Inserted.insert-records buffer filled k n inserted times time))

  pub inserted_past : InsertedPast buffer filled k n inserted bytes time
  inserted_past = (
    (Inserted.t buffer filled k n inserted).size,
    length_after buffer filled k n inserted,
    Inserted.past_stays buffer filled k n inserted,
  )

pub inserted_as_added : InsertedAsAdded
inserted_as_added buffer filled k all = (
  answer,
  ap (λ (a : Answer ℕ). buffer_inserted a buffer filled k) answer
      ∙ last_held buffer filled k last (add_of buffer filled k),
)
  where
    field : Bool
    field = wrong_field k.position k.direction (length k.body)

    last : last_time (contents_of (take filled buffer)) ≤ k.time
    last =
        rw (← times_end 0 (contents_of (take filled buffer)) (bodies_of (take filled buffer)))
        (end_not_later k.time 0 (records_of (take filled buffer)) (omega arith) all)

    answer : insert_of buffer filled k ≡ add_of buffer filled k
    answer =
        ap (λ (t : Bool). try_of t buffer filled k)
        (sym (ap (λ (t : Bool). field || t) (le-ltb k.time (last_time (contents_of (take filled buffer))) last) ∙ or-false field))
        ∙ sym (add_is buffer filled k)

-- ---- in any order

reordered_all : (P : Recorded → Type 0) {ks js : List Recorded} → Reordered ks js → All P ks → All P js
reordered_all P same a = a
reordered_all P (behind r) a = (a.0, reordered_all P r a.1)
reordered_all P swapped a = (a.1.0, (a.0, a.1.1))
reordered_all P (then r s) a = reordered_all P s (reordered_all P r a)

reordered_distinct : {ks js : List Recorded} → Reordered ks js → Distinct ks → Distinct js
reordered_distinct same d = d
reordered_distinct (behind {k} r) d = (reordered_all (λ (q : Recorded). q.time ≡ k.time → ⊥) r d.0, reordered_distinct r d.1)
reordered_distinct swapped d = (((λ e. d.0.0 (sym e)), d.1.0), (d.0.1, d.1.1))
reordered_distinct (then r s) d = reordered_distinct s (reordered_distinct r d)

-- one row, and then others
inserted_on : (k : Recorded) (ks : List Recorded) (b : List ℕ) (f n : ℕ) → insert_of b f k ≡ reads n
    → insert_all (k ∷ ks) b f ≡ insert_all ks (buffer_inserted (reads n) b f k) n
inserted_on k ks b f n e = ap (λ (a : Answer ℕ). follow a (λ m. insert_all ks (buffer_inserted (reads m) b f k) m)) e

on_inserted : {X : Type 0} (k : Recorded) (ks : List Recorded) (b : List ℕ) (f : ℕ) (x : List ℕ × ℕ) → insert_all (k ∷ ks) b f ≡ reads x
    → ((n : ℕ) → insert_of b f k ≡ reads n → insert_all ks (buffer_inserted (reads n) b f k) n ≡ reads x → X) → X
on_inserted {X} k ks b f x e next = by (insert_of b f k) refl e
  where
    by : (a : Answer ℕ) → insert_of b f k ≡ a → follow a (λ m. insert_all ks (buffer_inserted (reads m) b f k) m) ≡ reads x → X
    by (refusal m) g h = absurd (not_refused h)
    by (reads m) g h = next m g h

reorder : {ks js : List Recorded} → Reordered ks js → (b : List ℕ) (f : ℕ) (x : List ℕ × ℕ) → All Timely (records_of (take f b)) → All Timely ks
    → Distinct ks → insert_all ks b f ≡ reads x → insert_all js b f ≡ reads x
reorder same b f x times timely distinct e = e
reorder (behind {k} {ks} {js} r) b f x times timely distinct e =
    on_inserted k ks b f x e (λ n g h.
    inserted_on k js b f n g
    ∙ reorder r (buffer_inserted (reads n) b f k) n x
    (rw (Inserted.insert-records b f k n g times timely.0) (Inserted.holdable_all b f k n g times timely.0).timely) timely.1 distinct.1 h)
reorder (swapped {j} {k} {ks}) b f x times timely distinct e =
    on_inserted j (k ∷ ks) b f x e (λ n g h.
    on_inserted k ks (buffer_inserted (reads n) b f j) n x h (λ m g' h'.
    let first = other_first b f times j k timely.0 n m g g' in
    let second = then_this b f times j k timely.0 n m g g' timely.1.0 in
    inserted_on k (j ∷ ks) b f (grown f k) first
    ∙ inserted_on j ks (buffer_inserted (reads (grown f k)) b f k) (grown f k) m second
    ∙ ap (λ (l : List ℕ). insert_all ks l m) (orders_same b f times j k timely.0 timely.1.0 n m g g' (λ q. distinct.0.0 (sym q))) ∙ h'))
reorder (then r s) b f x times timely distinct e =
    reorder s b f x times (reordered_all Timely r timely) (reordered_distinct r distinct) (reorder r b f x times timely distinct e)

pub any_order : AnyOrder
any_order buffer filled ks js left bytes timely distinct r e = reorder r buffer filled left (times_fit buffer filled bytes) timely distinct e

-- ---- its answers

pub insert_succeeds : InsertSucceeds
insert_succeeds buffer filled rows k inside accepted few fits most p1 p48 d1 even l2 l1004 range =
    try_grown (wrong_field k.position k.direction (length k.body)) buffer filled k rows inside accepted
    (rw (
      le-ltb k.position 1 p1,
      le-ltb 48 k.position p48,
      le-ltb 1 k.direction d1,
      ne_eqb (length k.body % 2) 1 (omega arith),
      le-ltb (length k.body) 2 l2,
      le-ltb 1004 (length k.body) l1004,
    ))
    range (room_there buffer rows (grown filled k) few fits most)

pub insert_order : InsertOrder
unfolding try_of
insert_order buffer filled position direction time body = refl

pub inserting_by : InsertingBy
inserting_by buffer filled k = trying_by (wrong_field k.position k.direction (length k.body)) buffer filled k

pub inserting_settled : InsertingSettled
inserting_settled before filled k x y p q = two_equations _ _ x y (p.answers, p.leaves) (q.answers, q.leaves)

pub insert_settled : InsertSettled
insert_settled buffer filled k x y p q i =
    (gives_settled _ filled x.0 y.0 p.gives q.gives i, equation _ x.1 y.1 p.holds q.holds i)

pub inserting_unchanged : InsertingUnchanged
inserting_unchanged buffer after filled n k r e p = p.leaves ∙ ap (λ (a : Answer ℕ). buffer_inserted a buffer filled k) e

pub insert_unchanged : InsertUnchanged
insert_unchanged buffer after filled now r n k e p =
    (gives_untouched n (insert_of buffer filled k) filled r now e p.gives, p.holds ∙ ap (λ (a : Answer ℕ). buffer_inserted a buffer filled k) e)

pub example_inserted : ExampleInserted
unfolding try_of check_of number rows_of some_wrong end_of chars any records_in place_behind rows_for bytes_of_rows bodies_for bytes_of
example_inserted = refl
