-- What a sweep leaves is a bundle that the check accepts: it holds what the old one held without what is removed, and sweeping it changes nothing.
use Prim.Native.Nat.{ℕ, ◌≤◌}
use mathlib.Core.Bool.{Bool, false, ◌||◌}
use mathlib.Core.List.{List, [], ◌∷◌, ◌++◌}
use mathlib.Core.Path.{◌≡◌, refl, sym, ap, ap₂, ◌∙◌}
use native.Mathlib.Omega.{arith}
use borrow.Author.Tests.{ltb-false, le-ltb}
use lib.Dec.{ltb}
use lib.ListN.{length, take, drop, take-append-drop}
use lib.Seq.{take_at, drop_at, length-take-le}
use Rattle.base_rules.specs.Answers.{Answer, reads, refusal, refuse, follow}
use Rattle.base_characters.specs.Characters.{over, chars}
use Rattle.base_rules.specs.Lists.{any}
use Rattle.base_rules.proofs.Laws.AnswerLaws.{reads_same}
use Rattle.base_rules.proofs.Laws.Tests.{by_test, neither, passed}
use Rattle.base_rules.proofs.Laws.TestLaws.{not_refused}
use Rattle.base_lent.proofs.Laws.Copying.{laid_length}
use Rattle.bundle_rows.specs.Fields.{wrong_field}
use Rattle.bundle_rows.specs.Lists.{All}
use Rattle.bundle_rows.specs.Rows.{first_offset}
use Rattle.base_rules.proofs.Laws.ListLaws.{any_append}
use Rattle.bundle_rows.proofs.Laws.RowLaws.{field_right}
use Rattle.bundle_check.specs.Bundles.{contents_of, check_of}
use Rattle.bundle_check.specs.Records.{Recorded, records_of, rows_for, bodies_for, bundle_of, record_time}
use Rattle.bundle_check.specs.Walks.{some_wrong, end_of}
use Rattle.bundle_check.proofs.Laws.Accepted.{SoundBundle, accepted_sound}
use Rattle.bundle_check.proofs.Laws.HoldingLaws.{holdable_held}
use Rattle.bundle_check.proofs.Laws.RecordLaws.{wrong_record, Timely, Holdable, characters_append, length_bundle, contents_back, held_back, holdable_accepted}
use Rattle.bundle_sweep.specs.Sweeping.{removed, without, swept, swept_bundle, sweep_of, buffer_swept}
use Rattle.bundle_sweep.proofs.Laws.NewBundle.{new_fits}
use Rattle.bundle_sweep.proofs.Laws.Shown.{sweep-reads}
use Rattle.bundle_sweep.proofs.Laws.Without.{without_few, without_none, without_all}

-- ---- what can be held can be held without some of it

-- the parts of 34 for one record
pub right : (before : ℕ) (k : Recorded) (ks : List Recorded) → some_wrong wrong_record record_time before (k ∷ ks) ≡ false
    → (wrong_field k.position k.direction (length k.body) ≡ false) × (before ≤ k.time) × (some_wrong wrong_record record_time k.time ks ≡ false)
unfolding some_wrong
right before k ks e =
    let p = neither (wrong_record before k) (some_wrong wrong_record record_time k.time ks) e in
    let q = neither (wrong_field k.position k.direction (length k.body)) (ltb k.time before) p.0 in
    (q.0, ltb-false k.time before q.1, p.1)

module _ (test : Recorded → Bool) where
  -- times that never fall do not fall without some of them
  pub fields_left : (lower before : ℕ) (ks : List Recorded) → lower ≤ before → some_wrong wrong_record record_time before ks ≡ false
      → some_wrong wrong_record record_time lower (without test ks) ≡ false
  unfolding some_wrong without
  fields_left lower before [] h e = refl
  fields_left lower before (k ∷ ks) h e =
      let p = right before k ks e in
      by_test (test k) (λ t. rw t (fields_left lower k.time ks (omega (arith, p.1)) p.2))
      (λ t. rw (t, p.0, le-ltb k.time lower (omega (arith, p.1))) (fields_left k.time k.time ks (omega arith) p.2))

  -- the last time of those that are left is no later
  pub last_left : (lower before : ℕ) (ks : List Recorded) → lower ≤ before → some_wrong wrong_record record_time before ks ≡ false
      → end_of record_time lower (without test ks) ≤ end_of record_time before ks
  unfolding end_of without
  last_left lower before [] h e = h
  last_left lower before (k ∷ ks) h e =
      let p = right before k ks e in
      by_test (test k) (λ t. rw t (last_left lower k.time ks (omega (arith, p.1)) p.2))
      (λ t. rw t (last_left k.time k.time ks (omega arith) p.2))

  pub timely_left : (ks : List Recorded) → All Timely ks → All Timely (without test ks)
  unfolding without
  timely_left [] p = tt
  timely_left (k ∷ ks) p = by_test (test k) (λ t. rw t (timely_left ks p.1)) (λ t. rw t (p.0, timely_left ks p.1))

  pub range_left : (before : ℕ) (ks : List Recorded) → some_wrong wrong_record record_time before ks ≡ false → any over (chars (bodies_for ks)) ≡ false
      → any over (chars (bodies_for (without test ks))) ≡ false
  unfolding without bodies_for
  range_left before [] e r = r
  range_left before (k ∷ ks) e r =
      let p = right before k ks e in
      let parts : (l : List ℕ) → any over (chars (k.body ++ l)) ≡ (any over (chars k.body) || any over (chars l)) =
      λ l. ap (any over) (characters_append k.body l (field_right k.position k.direction (length k.body) p.0).size_even)
      ∙ any_append over (chars k.body) (chars l) in
      let q = neither (any over (chars k.body)) (any over (chars (bodies_for ks))) (sym (parts (bodies_for ks)) ∙ r) in
      by_test (test k) (λ t. rw t (range_left k.time ks p.2 q.1))
      (λ t. rw t (parts (bodies_for (without test ks)) ∙ rw q.0 (range_left k.time ks p.2 q.1)))

-- ---- what is known where a sweep was made
pub record Cleared (buffer : List ℕ) (filled position n : ℕ) : Type 0 where
  pub rows : ℕ
  pub inside : filled ≤ length buffer
  pub old : check_of (take filled buffer) ≡ reads rows
  pub named : ltb 48 position ≡ false
  pub size : n ≡ length (swept_bundle position (take filled buffer))

pub cleared : (buffer : List ℕ) (filled position n : ℕ) → sweep_of buffer filled position ≡ reads n → Cleared buffer filled position n
unfolding sweep_of
cleared buffer filled position n e =
    let p = passed 30 (ltb (length buffer) filled) (follow (check_of (take filled buffer)) next) n e in
    checked (check_of (take filled buffer)) p.0 refl p.1
  where
    next : ℕ → Answer ℕ
    next m = refuse 34 (ltb 48 position) (reads (length (swept_bundle position (take filled buffer))))

    checked : (a : Answer ℕ) → ltb (length buffer) filled ≡ false → check_of (take filled buffer) ≡ a → follow a next ≡ reads n
        → Cleared buffer filled position n
    checked (refusal m) h o g = absurd (not_refused g)
    checked (reads m) h o g =
        let p = passed 34 (ltb 48 position) (reads (length (swept_bundle position (take filled buffer)))) n g in
        record { rows = m; inside = ltb-false (length buffer) filled h; old = o; named = p.0; size = sym (reads_same p.1) }

-- ---- what is left

module _ (buffer : List ℕ) (filled position n : ℕ) (e : sweep_of buffer filled position ≡ reads n) where
  abbrev old : List ℕ
  old = take filled buffer

  abbrev after : List ℕ
  after = buffer_swept (reads n) buffer filled position

  abbrev new : List ℕ
  new = take n after

  abbrev left : List Recorded
  left = swept position (records_of old)

  c : Cleared buffer filled position n
  c = cleared buffer filled position n e

  abbrev sound : SoundBundle old
  sound = (accepted_sound old c.rows c.old).0

  size_old : length old ≡ filled
  size_old = length-take-le filled buffer c.inside

  -- it is no longer, and what stood past it and past the old end stands there
  pub sweep_fits : n ≤ filled
  sweep_fits = omega (arith, c.size, new_fits position old c.rows c.old, size_old)

  pub new_is : new ≡ bundle_of left
  new_is = take_at (bundle_of left) (drop (length (bundle_of left)) buffer) n (sym c.size)

  pub past_the_end : drop n after ≡ drop n buffer
  past_the_end = drop_at (bundle_of left) (drop (length (bundle_of left)) buffer) n (sym c.size) ∙ ap (λ (k : ℕ). drop k buffer) (sym c.size)

  pub same_room : length after ≡ length buffer
  same_room = laid_length buffer (bundle_of left) 0 (omega (arith, sweep_fits, c.size, c.inside))

  module _ (times : All Timely (records_of old)) where
    held : Holdable (records_of old)
    held = holdable_held old sound times

    pub left_holdable : Holdable left
    left_holdable = record {
      few = omega (arith, without_few (removed position) (records_of old), held.few);
      fits = omega (arith, length_bundle left, c.size, sweep_fits, size_old, sound.fits);
      fields = fields_left (removed position) 0 0 (records_of old) (omega arith) held.fields;
      timely = timely_left (removed position) (records_of old) held.timely;
      range = range_left (removed position) 0 (records_of old) held.fields held.range;
    }

    pub sweep_accepted : check_of new ≡ reads (length left)
    sweep_accepted = rw new_is (holdable_accepted left left_holdable)

    pub sweep_holds : records_of new ≡ left
    sweep_holds = rw new_is (held_back left left_holdable)

    pub sweep_rows : contents_of new ≡ rows_for (first_offset (length left)) left
    sweep_rows = rw new_is (contents_back left left_holdable)

    -- ---- sweeping again

    again : swept_bundle position new ≡ new
    again =
        ap (λ (ks : List Recorded). bundle_of (swept position ks)) sweep_holds
        ∙ ap bundle_of (without_all (removed position) left (without_none (removed position) (records_of old))) ∙ sym new_is

    size_new : length new ≡ n
    size_new = length-take-le n after (omega (arith, sweep_fits, c.inside, same_room))

    pub twice_answers : sweep_of after n position ≡ reads n
    twice_answers =
        sweep-reads after n position (omega (arith, sweep_fits, c.inside, same_room)) (length left) sweep_accepted c.named
        ∙ ap reads (ap length again ∙ size_new)

    pub twice_leaves : buffer_swept (reads n) after n position ≡ after
    twice_leaves =
        ap₂ (λ (s : List ℕ) (k : ℕ). s ++ drop k after) again (ap length again ∙ size_new) ∙ take-append-drop n after
