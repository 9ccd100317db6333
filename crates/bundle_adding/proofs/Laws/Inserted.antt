-- What inserting leaves: it is accepted, and holds the old rows with the new one in its place.
use Prim.Native.Nat.{ℕ, ◌+◌, ◌%◌, ◌≤◌, ◌<◌}
use mathlib.Core.Bool.{false}
use mathlib.Core.List.{List, [], ◌∷◌, ◌++◌}
use mathlib.Core.Path.{◌≡◌, refl, sym, ap, ◌∙◌, subst}
use native.Mathlib.Omega.{arith}
use borrow.Author.Tests.{le-ltb}
use lib.Dec.{ltb}
use lib.ListN.{length, get_or, take, drop, length-append, take-append-drop}
use lib.Seq.{length-take-le, take_at, drop_at}
use Rattle.base_rules.specs.Answers.{reads}
use Rattle.base_rules.specs.Lists.{any}
use Rattle.base_rules.proofs.Laws.ListLaws.{any_append}
use Rattle.base_rules.proofs.Laws.Tests.{neither}
use Rattle.base_characters.specs.Characters.{over, chars}
use Rattle.bundle_rows.specs.Lists.{All}
use Rattle.bundle_rows.proofs.Laws.Lists.{all_append}
use Rattle.bundle_rows.proofs.Laws.RowLaws.{field_right}
use Rattle.bundle_rows.specs.Fields.{wrong_field}
use Rattle.bundle_rows.specs.Rows.{most_rows, first_offset}
use Rattle.bundle_check.proofs.Laws.Accepted.{SoundBundle, accepted_sound}
use Rattle.bundle_check.proofs.Laws.BodyLaws.{body_held}
use Rattle.bundle_check.specs.Bundles.{most_bytes, count_of, check_of}
use Rattle.bundle_check.specs.Handing.{body_at}
use Rattle.bundle_check.proofs.Laws.HoldingLaws.{length_bodies, length_held, holdable_held, bodies_held}
use Rattle.bundle_check.specs.Records.{blank_record, Recorded, record_time, records_of, bodies_for, bundle_of}
use Rattle.bundle_check.proofs.Laws.RecordLaws.{wrong_record, Timely, Holdable, held_back, holdable_accepted, even_bodies, characters_append}
use Rattle.bundle_check.specs.Stretches.{bytes_at}
use Rattle.bundle_check.specs.Walks.{some_wrong, end_of}
use Rattle.bundle_check.proofs.Laws.Walks.{some_append}
use Rattle.bundle_adding.proofs.Laws.AddLaws.{room_left}
use Rattle.bundle_adding.proofs.Laws.Opened.{length_put, bodies_put, bodies_parts, size_put}
use Rattle.bundle_adding.proofs.Laws.InsertingLaws.{InOrder, in_order, Later, NotLater, place_parts}
use Rattle.bundle_adding.proofs.Laws.Trying.{Tried, tried}
use Rattle.bundle_adding.specs.Adding.{grown}
use Rattle.bundle_adding.specs.Inserting.{place_for, put_at, insert_of, buffer_inserted}

all_split : {A : Type 0} (P : A → Type 0) (l m : List A) → All P (l ++ m) → All P l × All P m
all_split P [] m a = (tt, a)
all_split P (x ∷ l) m a = let p = all_split P l m a.1 in ((a.0, p.0), p.1)

-- ---- a list by time with one more in its place

pub end_not_later : (t s : ℕ) (l : List Recorded) → s ≤ t → All (NotLater t) l → end_of record_time s l ≤ t
unfolding end_of
end_not_later t s [] h a = h
end_not_later t s (k ∷ l) h a = end_not_later t k.time l a.0 a.1

still_right : (s u : ℕ) (l : List Recorded) → All (Later u) l → some_wrong wrong_record record_time s l ≡ false → some_wrong wrong_record record_time u l ≡ false
unfolding some_wrong
still_right s u [] a e = refl
still_right s u (k ∷ l) a e =
    let p = neither (wrong_record s k) (some_wrong wrong_record record_time k.time l) e in
    let q = neither (wrong_field k.position k.direction (length k.body)) (ltb k.time s) p.0 in
    rw (q.0, le-ltb k.time u (omega (arith, a.0)), p.1)

module _ (ks : List Recorded) (k : Recorded) (p : ℕ) (g : Holdable ks)
    (field : wrong_field k.position k.direction (length k.body) ≡ false)
    (front : All (NotLater k.time) (take p ks)) (behind : All (Later k.time) (drop p ks)) where
  parts_right : (some_wrong wrong_record record_time 0 (take p ks) ≡ false)
      × (some_wrong wrong_record record_time (end_of record_time 0 (take p ks)) (drop p ks) ≡ false)
  parts_right =
      neither _ _
      (sym (some_append wrong_record record_time 0 (take p ks) (drop p ks)) ∙ ap (some_wrong wrong_record record_time 0) (take-append-drop p ks) ∙ g.fields)

  fields_put : some_wrong wrong_record record_time 0 (put_at p k ks) ≡ false
  unfolding some_wrong
  fields_put =
      let before : end_of record_time 0 (take p ks) ≤ k.time = end_not_later k.time 0 (take p ks) (omega arith) front in
      some_append wrong_record record_time 0 (take p ks) (k ∷ drop p ks)
      ∙ rw (
        parts_right.0,
        field,
        le-ltb k.time (end_of record_time 0 (take p ks)) before,
        still_right (end_of record_time 0 (take p ks)) k.time (drop p ks) behind parts_right.1,
      )

  range_put : any over (chars k.body) ≡ false → any over (chars (bodies_for (put_at p k ks))) ≡ false
  range_put r =
      let even : length (bodies_for (take p ks)) % 2 ≡ 0 = even_bodies 0 (take p ks) parts_right.0 in
      let own : length k.body % 2 ≡ 0 = (field_right k.position k.direction (length k.body) field).size_even in
      let old = neither (any over (chars (bodies_for (take p ks)))) (any over (chars (bodies_for (drop p ks))))
      (sym (any_append over (chars (bodies_for (take p ks))) (chars (bodies_for (drop p ks))))
      ∙ ap (any over) (sym (characters_append (bodies_for (take p ks)) (bodies_for (drop p ks)) even) ∙ ap chars (sym (bodies_parts p ks)))
      ∙ g.range) in
      rw (
        bodies_put p k ks,
        characters_append (bodies_for (take p ks)) (k.body ++ bodies_for (drop p ks)) even,
        characters_append k.body (bodies_for (drop p ks)) own,
        any_append over (chars (bodies_for (take p ks))) (chars k.body ++ chars (bodies_for (drop p ks))),
        any_append over (chars k.body) (chars (bodies_for (drop p ks))),
        old.0,
        r,
        old.1,
      )

  pub holdable_put : length ks < most_rows → first_offset (length ks + 1) + (length (bodies_for ks) + length k.body) ≤ most_bytes → Timely k
      → any over (chars k.body) ≡ false → Holdable (put_at p k ks)
  holdable_put few fits time range =
      let more : length (put_at p k ks) ≡ length ks + 1 = length_put p k ks in
      let old = all_split Timely (take p ks) (drop p ks) (subst (All Timely) (sym (take-append-drop p ks)) g.timely) in
      record {
        few = omega arith;
        fits =
            omega (
              arith,
              ap length (bodies_put p k ks),
              length-append (bodies_for (take p ks)) (k.body ++ bodies_for (drop p ks)),
              length-append k.body (bodies_for (drop p ks)),
              ap length (bodies_parts p ks),
              length-append (bodies_for (take p ks)) (bodies_for (drop p ks)),
            );
        fields = fields_put;
        timely = all_append Timely (take p ks) (k ∷ drop p ks) old.0 (time, old.1);
        range = range_put range;
      }

-- ---- what is left

-- what the old bundle held, with the new one in its place
abbrev pub inserted_in : Recorded → List Recorded → List Recorded
inserted_in k ks = put_at (place_for k ks) k ks

-- the bundle that the buffer then holds
abbrev pub bundle_inserted : List ℕ → ℕ → Recorded → ℕ → List ℕ
bundle_inserted buffer filled k n = take n (buffer_inserted (reads n) buffer filled k)

module _ (buffer : List ℕ) (filled : ℕ) (k : Recorded) (n : ℕ) (e : insert_of buffer filled k ≡ reads n) where
  abbrev old : List ℕ
  old = take filled buffer

  pub t : Tried (wrong_field k.position k.direction (length k.body)) buffer filled k n
  t = tried (wrong_field k.position k.direction (length k.body)) buffer filled k n e

  abbrev sound : SoundBundle old
  sound = (accepted_sound old t.rows t.old).0

  pub size_all : length (bundle_of (inserted_in k (records_of old))) ≡ n
  size_all = size_put old sound (place_for k (records_of old)) k ∙ rw (length-take-le filled buffer t.inside) (sym t.size)

  pub new_is : bundle_inserted buffer filled k n ≡ bundle_of (inserted_in k (records_of old))
  new_is = take_at (bundle_of (inserted_in k (records_of old))) (drop (length (bundle_of (inserted_in k (records_of old)))) buffer) n size_all

  -- the bytes past its end are as they were
  pub past_stays : drop n (buffer_inserted (reads n) buffer filled k) ≡ drop n buffer
  past_stays =
      drop_at (bundle_of (inserted_in k (records_of old))) (drop (length (bundle_of (inserted_in k (records_of old)))) buffer) n size_all
      ∙ ap (λ (m : ℕ). drop m buffer) size_all

  module _ (times : All Timely (records_of old)) where
    pub ordered : InOrder 0 (records_of old)
    ordered = in_order 0 (records_of old) (holdable_held old sound times).fields

    module _ (time : Timely k) where
      pub holdable_all : Holdable (inserted_in k (records_of old))
      holdable_all =
          let room = room_left buffer t.rows (grown filled k) t.room in
          let place = place_parts k.time 0 (records_of old) ordered in
          let size : length old ≡ filled = length-take-le filled buffer t.inside in
          holdable_put (records_of old) k (place_for k (records_of old)) (holdable_held old sound times) t.right place.0 place.1
          (omega (arith, length_held old sound, (accepted_sound old t.rows t.old).1, room.0))
          (omega (arith, length_held old sound, ap length (bodies_held old sound), length_bodies old sound, size, room.2)) time t.range

      -- it is accepted, with a row more
      pub insert-accepted : check_of (bundle_inserted buffer filled k n) ≡ reads (count_of old + 1)
      insert-accepted =
          rw new_is
          (holdable_accepted (inserted_in k (records_of old)) holdable_all
          ∙ ap reads (length_put (place_for k (records_of old)) k (records_of old) ∙ ap (λ (m : ℕ). m + 1) (length_held old sound)))

      -- it holds what the old one held, with the new one in its place
      pub insert-records : records_of (bundle_inserted buffer filled k n) ≡ inserted_in k (records_of old)
      insert-records = rw new_is (held_back (inserted_in k (records_of old)) holdable_all)

      pub insert-bodies : (i : ℕ) → i < count_of old + 1
          → bytes_at (body_at (bundle_inserted buffer filled k n) i) (bundle_inserted buffer filled k n)
          ≡ (get_or (inserted_in k (records_of old)) i blank_record).body
      insert-bodies i h =
          let new = bundle_inserted buffer filled k n in
          let s = accepted_sound new (count_of old + 1) insert-accepted in
          body_held new s.0 i (omega (arith, s.1)) ∙ ap (λ (l : List Recorded). (get_or l i blank_record).body) insert-records
