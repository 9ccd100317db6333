-- What adding leaves is a bundle that the check accepts: it holds what the old one held and what was added, last.
use Prim.Native.Nat.{ℕ, ◌+◌, ◌≤◌, ◌<◌}
use mathlib.Core.Bool.{Bool, true, false}
use mathlib.Core.List.{List, [], ◌∷◌, ◌++◌, map}
use mathlib.Core.Path.{◌≡◌, refl, sym, ap, ap₂, ◌∙◌}
use native.Mathlib.Omega.{arith}
use borrow.Author.Tests.{ltb-false}
use lib.Dec.{ltb}
use lib.ListN.{length, get_or, take, drop, length-append, get_or-append}
use lib.Seq.{take_at, length-take-le, get_or_at}
use Rattle.base_rules.proofs.Laws.AnswerLaws.{reads_same}
use Rattle.base_rules.specs.Answers.{Answer, reads, refusal, refuse, follow}
use Rattle.base_characters.specs.Characters.{over, chars}
use Rattle.base_rules.specs.Lists.{any}
use Rattle.base_rules.proofs.Laws.TestLaws.{not_refused, all_passed}
use Rattle.base_numbers.specs.Numbers.{number}
use Rattle.base_rules.proofs.Laws.ByteLaws.{EachByte, each_take}
use Rattle.bundle_rows.specs.Lists.{All}
use Rattle.bundle_rows.proofs.Laws.Lists.{all_append}
use Rattle.bundle_rows.specs.Rows.{most_rows, rows_of, first_offset}
use Rattle.bundle_rows.specs.declared.Row.{Row}
use Rattle.bundle_check.proofs.Laws.Accepted.{SoundBundle, accepted_sound, sound_accepted}
use Rattle.bundle_check.proofs.Laws.BodyLaws.{times_end, body_held}
use Rattle.bundle_check.specs.Bundles.{most_bytes, count_of, contents_of, bodies_of, check_of}
use Rattle.bundle_check.specs.Handing.{body_at}
use Rattle.bundle_check.proofs.Laws.HoldingLaws.{placed_raised, length_bodies, length_held, holdable_held, timely_held, bodies_held}
use Rattle.bundle_check.proofs.Laws.RecordLaws.{Timely, Holdable, contents_back, held_back, length_bundle, holdable_last, holdable_accepted}
use Rattle.bundle_check.specs.Records.{blank_record, Recorded, records_in, records_of, row_for, rows_for, bodies_for, bundle_of, moved_to}
use Rattle.bundle_check.specs.RowRules.{wrong_row}
use Rattle.bundle_check.specs.Stretches.{bytes_at}
use Rattle.bundle_check.specs.Walks.{some_wrong, end_of}
use Rattle.bundle_adding.proofs.Laws.AddLaws.{room_left}
use Rattle.bundle_adding.specs.Adding.{last_time, grown, no_room, add_of, buffer_after}
use Rattle.bundle_adding.proofs.Laws.Grown.{one_more, rows_grown, bodies_grown}

-- ---- what is known where something was added
pub record Taken (buffer : List ℕ) (filled : ℕ) (k : Recorded) (n : ℕ) : Type 0 where
  pub rows : ℕ
  pub inside : filled ≤ length buffer
  pub old : check_of (take filled buffer) ≡ reads rows
  pub right : wrong_row (last_time (contents_of (take filled buffer))) (row_for (filled + 12) k) ≡ false
  pub range : any over (chars k.body) ≡ false
  pub room : no_room buffer rows (grown filled k) ≡ false
  pub size : n ≡ grown filled k

pub taken : (buffer : List ℕ) (filled : ℕ) (k : Recorded) (n : ℕ) → add_of buffer filled k ≡ reads n → Taken buffer filled k n
unfolding add_of
taken buffer filled k n e = past (ltb (length buffer) filled) refl e
  where
    tests : ℕ → Answer ℕ
    tests m =
        refuse 34 (wrong_row (last_time (contents_of (take filled buffer))) (row_for (filled + 12) k))
        (refuse 37 (any over (chars k.body)) (refuse 38 (no_room buffer m (grown filled k)) (reads (grown filled k))))

    checked : (a : Answer ℕ) → ltb (length buffer) filled ≡ false → check_of (take filled buffer) ≡ a → follow a tests ≡ reads n → Taken buffer filled k n
    checked (refusal m) h o g = absurd (not_refused g)
    checked (reads m) h o g =
        let p =
        all_passed
        ((34, wrong_row (last_time (contents_of (take filled buffer))) (row_for (filled + 12) k))
        ∷ ((37, any over (chars k.body)) ∷ ((38, no_room buffer m (grown filled k)) ∷ [])))
        (reads (grown filled k)) g in
        record {
          rows = m;
          inside = ltb-false (length buffer) filled h;
          old = o;
          right = p.0.0;
          range = p.0.1.0;
          room = p.0.1.1.0;
          size = sym (reads_same p.1);
        }

    past : (t : Bool) → ltb (length buffer) filled ≡ t → refuse 30 t (follow (check_of (take filled buffer)) tests) ≡ reads n → Taken buffer filled k n
    past true h g = absurd (not_refused g)
    past false h g = checked (check_of (take filled buffer)) h refl g

-- ---- what is left

-- the bundle that the buffer then holds
abbrev pub bundle_after : List ℕ → ℕ → Recorded → ℕ → List ℕ
bundle_after buffer filled k n = take n (buffer_after (reads n) buffer filled k)

module _ (buffer : List ℕ) (filled : ℕ) (k : Recorded) (n : ℕ) (e : add_of buffer filled k ≡ reads n)
    (times : All Timely (records_of (take filled buffer))) (time : Timely k) where
  abbrev old : List ℕ
  old = take filled buffer

  abbrev new : List ℕ
  new = bundle_after buffer filled k n

  abbrev all : List Recorded
  all = records_of old ++ (k ∷ [])

  t : Taken buffer filled k n
  t = taken buffer filled k n e

  abbrev sound : SoundBundle old
  sound = (accepted_sound old t.rows t.old).0

  size_old : length old ≡ filled
  size_old = length-take-le filled buffer t.inside

  room : (t.rows < most_rows) × (grown filled k ≤ length buffer) × (grown filled k ≤ most_bytes)
  room = room_left buffer t.rows (grown filled k) t.room

  size_all : first_offset (length all) + length (bodies_for all) ≡ n
  size_all =
      omega (
        arith,
        one_more old sound k,
        ap length (bodies_grown old sound k),
        length-append (bodies_of old) k.body,
        length_bodies old sound,
        size_old,
        t.size,
      )

  pub holdable_all : Holdable all
  holdable_all =
      holdable_last (records_of old) k (holdable_held old sound times)
      (omega (arith, length_held old sound, (accepted_sound old t.rows t.old).1, room.0))
      (omega (arith, length_held old sound, ap length (bodies_held old sound), length_bodies old sound, size_old, room.2))
      (rw (times_end 0 (contents_of old) (bodies_of old)) t.right) time t.range

  pub new_is : new ≡ bundle_of all
  new_is = take_at (bundle_of all) (drop (length (bundle_of all)) buffer) n (length_bundle all ∙ size_all)

  -- it is accepted, with a row more
  pub add_accepted : check_of new ≡ reads (count_of old + 1)
  add_accepted = rw new_is (holdable_accepted all holdable_all ∙ ap reads (one_more old sound k))

  -- it holds what the old one held, and what was added
  pub add_records : records_of new ≡ records_of old ++ (k ∷ [])
  add_records = rw new_is (held_back all holdable_all)

  -- its rows are the old ones with their offsets 12 higher, and the new one
  pub add_rows : contents_of new ≡ map (λ (r : Row). moved_to (r.offset + 12) r) (contents_of old) ++ (row_for (filled + 12) k ∷ [])
  add_rows =
      ap contents_of new_is ∙ contents_back all holdable_all ∙ ap (λ (m : ℕ). rows_for (first_offset m) all) (one_more old sound k) ∙ rows_grown old sound k
      ∙ ap₂ (λ (l : List Row) (m : ℕ). l ++ (row_for (m + 12) k ∷ []))
      (placed_raised (length old) (first_offset (count_of old)) 12 (contents_of old) sound.places) size_old

  -- every old body reads as before, and the new one as it was given
  pub add_bodies : (i : ℕ) → i < count_of old → bytes_at (body_at new i) new ≡ bytes_at (body_at old i) old
  add_bodies i h =
      body_held new (accepted_sound new (count_of old + 1) add_accepted).0 i (omega (arith, (accepted_sound new (count_of old + 1) add_accepted).1))
      ∙ ap (λ (l : List Recorded). (get_or l i blank_record).body) add_records
      ∙ ap (λ (q : Recorded). q.body) (get_or-append (records_of old) (k ∷ []) blank_record i (omega (arith, length_held old sound)))
      ∙ sym (body_held old sound i h)

  pub add_body : bytes_at (body_at new (count_of old)) new ≡ k.body
  add_body =
      body_held new (accepted_sound new (count_of old + 1) add_accepted).0 (count_of old) (omega (arith, (accepted_sound new (count_of old + 1) add_accepted).1))
      ∙ ap (λ (l : List Recorded). (get_or l (count_of old) blank_record).body) add_records
      ∙ ap (λ (q : Recorded). q.body) (get_or_at (records_of old) k [] blank_record (count_of old) (length_held old sound))

-- in lent bytes every time fits
pub bytes_timely : (buffer : List ℕ) (filled m : ℕ) → EachByte buffer → check_of (take filled buffer) ≡ reads m → All Timely (records_of (take filled buffer))
bytes_timely buffer filled m p e = timely_held (take filled buffer) (accepted_sound (take filled buffer) m e).0 (each_take filled buffer p)

-- ---- a bundle that is built by adding alone

pub data Built : List ℕ → Type 0 where
  empty : Built (0 ∷ (0 ∷ []))
  more : (buffer : List ℕ) (filled : ℕ) (k : Recorded) (n : ℕ) → Built (take filled buffer) → Timely k → add_of buffer filled k ≡ reads n
      → Built (bundle_after buffer filled k n)

empty_accepted : check_of (0 ∷ (0 ∷ [])) ≡ reads 0
unfolding check_of number rows_of some_wrong end_of chars any
empty_accepted = refl

built_sound : (b : List ℕ) → Built b → SoundBundle b × All Timely (records_of b)
unfolding number rows_of records_in
built_sound b empty = ((accepted_sound (0 ∷ (0 ∷ [])) 0 empty_accepted).0, tt)
built_sound b (more d f k n o time e) =
    let p = built_sound (take f d) o in
    let a = add_accepted d f k n e p.1 time in (
      (accepted_sound (bundle_after d f k n) (count_of (take f d) + 1) a).0,
      rw (add_records d f k n e p.1 time) (all_append Timely (records_of (take f d)) (k ∷ []) p.1 (time, tt)),
    )

pub built_accepted : (b : List ℕ) → Built b → check_of b ≡ reads (count_of b)
built_accepted b o = sound_accepted b (built_sound b o).0
