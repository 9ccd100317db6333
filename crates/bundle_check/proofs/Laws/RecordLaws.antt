-- Any list of records that a bundle can hold: the bundle of them is accepted, and they are read back from it.
use Prim.Native.Nat.{ℕ, suc, ◌+◌, ◌*◌, ◌%◌, ◌^◌, ◌≤◌, ◌<◌}
use mathlib.Core.Bool.{Bool, false, ◌||◌}
use mathlib.Core.List.{List, [], ◌∷◌, ◌++◌, append_assoc, append-nil}
use mathlib.Core.Path.{◌≡◌, refl, sym, ap, ap₂, ◌∙◌}
use native.Mathlib.Nat.{add-zero, add_assoc}
use native.Mathlib.Omega.{arith}
use borrow.Author.Tests.{le-ltb, eq-eqb}
use lib.ListN.{length, drop, length-append}
use lib.Seq.{drop-drop, take_at, drop_at, take-append_seam, drop-append_seam}
use lib.Dec.{ltb}
use Rattle.base_characters.specs.Characters.{over, chars}
use Rattle.base_rules.specs.Lists.{any}
use Rattle.base_rules.specs.Answers.{reads}
use Rattle.base_rules.proofs.Laws.Tests.{neither}
use Rattle.base_numbers.specs.Numbers.{number, bytes_of}
use Rattle.base_numbers.proofs.Laws.Numbers.{length_bytes, number_bytes}
use Rattle.bundle_rows.specs.Lists.{All}
use Rattle.bundle_rows.proofs.Laws.Lists.{all_append}
use Rattle.base_rules.proofs.Laws.ListLaws.{any_append}
use Rattle.bundle_rows.proofs.Laws.RowLaws.{Fitting, rows_back, length_rows_bytes, field_right}
use Rattle.bundle_rows.specs.Rows.{most_rows, rows_of, first_offset, bytes_of_rows}
use Rattle.bundle_rows.specs.declared.Row.{Row}
use Rattle.bundle_rows.specs.Fields.{wrong_field}
use Rattle.bundle_check.proofs.Laws.Accepted.{SoundBundle, sound_accepted}
use Rattle.bundle_check.specs.Bundles.{most_bytes, count_of, contents_of, bodies_of, check_of}
use Rattle.bundle_check.specs.Records.{Recorded, record_time, records_in, records_of, row_for, rows_for, bodies_for, bundle_of}
use Rattle.bundle_check.specs.RowRules.{wrong_row, wrong_rows, wrong_places, bodies_end}
use Rattle.bundle_check.specs.Walks.{some_wrong, end_of}
use Rattle.bundle_check.proofs.Laws.Walks.{some_append}

-- ---- the rows of what was recorded

-- 34 of what was recorded: no offset is asked for
abbrev pub wrong_record : ℕ → Recorded → Bool
wrong_record before k = wrong_row before (row_for 0 k)

abbrev pub Timely : Recorded → Type 0
Timely k = k.time < 256 ^ 4

pub length_rows_for : (o : ℕ) (ks : List Recorded) → length (rows_for o ks) ≡ length ks
unfolding rows_for
length_rows_for o [] = refl
length_rows_for o (k ∷ ks) = ap suc (length_rows_for (o + length k.body) ks)

pub fields_for : (before o : ℕ) (ks : List Recorded) → wrong_rows before (rows_for o ks) ≡ some_wrong wrong_record record_time before ks
unfolding rows_for some_wrong
fields_for before o [] = refl
fields_for before o (k ∷ ks) = ap (λ (t : Bool). wrong_record before k || t) (fields_for k.time (o + length k.body) ks)

pub ends_for : (o : ℕ) (ks : List Recorded) → bodies_end o (rows_for o ks) ≡ o + length (bodies_for ks)
unfolding rows_for end_of bodies_for
ends_for o [] = sym (add-zero o)
ends_for o (k ∷ ks) = ends_for (o + length k.body) ks ∙ rw (length-append k.body (bodies_for ks)) (add_assoc o (length k.body) (length (bodies_for ks)))

pub places_for : (e o : ℕ) (ks : List Recorded) → o + length (bodies_for ks) ≤ e → wrong_places e o (rows_for o ks) ≡ false
unfolding rows_for some_wrong bodies_for
places_for e o [] h = refl
places_for e o (k ∷ ks) h =
    let all : length (k.body ++ bodies_for ks) ≡ length k.body + length (bodies_for ks) = length-append k.body (bodies_for ks) in
    rw (eq-eqb o o refl, le-ltb e (o + length k.body) (omega arith)) (places_for e (o + length k.body) ks (omega arith))

pub fitting_for : (o : ℕ) (ks : List Recorded) → 2 ≤ o → o + length (bodies_for ks) ≤ most_bytes → All Timely ks → All Fitting (rows_for o ks)
unfolding rows_for bodies_for
fitting_for o [] l h t = tt
fitting_for o (k ∷ ks) l h t =
    let all : length (k.body ++ bodies_for ks) ≡ length k.body + length (bodies_for ks) = length-append k.body (bodies_for ks) in
    (record { time = t.0; offset = omega arith; size = omega arith }, fitting_for (o + length k.body) ks (omega arith) (omega arith) t.1)

pub records_back : (o : ℕ) (ks : List Recorded) → records_in (rows_for o ks) (bodies_for ks) ≡ ks
unfolding rows_for bodies_for records_in
records_back o [] = refl
records_back o (k ∷ ks) =
    rw (take-append_seam k.body (bodies_for ks), drop-append_seam k.body (bodies_for ks), records_back (o + length k.body) ks)

-- ---- one list of records behind another

pub rows_for_append : (o : ℕ) (ks js : List Recorded) → rows_for o (ks ++ js) ≡ rows_for o ks ++ rows_for (o + length (bodies_for ks)) js
unfolding rows_for bodies_for
rows_for_append o [] js = rw (add-zero o)
rows_for_append o (k ∷ ks) js =
    rw (rows_for_append (o + length k.body) ks js, add_assoc o (length k.body) (length (bodies_for ks)), ← length-append k.body (bodies_for ks))

pub bodies_for_append : (ks js : List Recorded) → bodies_for (ks ++ js) ≡ bodies_for ks ++ bodies_for js
unfolding bodies_for
bodies_for_append [] js = refl
bodies_for_append (k ∷ ks) js = rw (bodies_for_append ks js, append_assoc k.body (bodies_for ks) (bodies_for js))

-- and one record behind others
pub rows_for_last : (o : ℕ) (ks : List Recorded) (k : Recorded) → rows_for o (ks ++ (k ∷ [])) ≡ rows_for o ks ++ (row_for (o + length (bodies_for ks)) k ∷ [])
unfolding rows_for
rows_for_last o ks k = rows_for_append o ks (k ∷ [])

pub bodies_for_last : (ks : List Recorded) (k : Recorded) → bodies_for (ks ++ (k ∷ [])) ≡ bodies_for ks ++ k.body
unfolding bodies_for
bodies_for_last ks k = bodies_for_append ks (k ∷ []) ∙ ap (λ (l : List ℕ). bodies_for ks ++ l) (append-nil k.body)

-- ---- the bundle of what was recorded

-- what a bundle can hold
pub record Holdable (ks : List Recorded) : Type 0 where
  pub few : length ks ≤ most_rows
  pub fits : first_offset (length ks) + length (bodies_for ks) ≤ most_bytes
  pub fields : some_wrong wrong_record record_time 0 ks ≡ false
  pub timely : All Timely ks
  pub range : any over (chars (bodies_for ks)) ≡ false

-- their bodies are whole characters
pub characters_append : (s t : List ℕ) → length s % 2 ≡ 0 → chars (s ++ t) ≡ chars s ++ chars t
unfolding chars
characters_append [] t h = refl
characters_append (x ∷ []) t h = let never : ⊥ = omega arith in absurd never
characters_append (x ∷ (y ∷ s)) t h = rw (characters_append s t (omega arith))

pub even_bodies : (before : ℕ) (ks : List Recorded) → some_wrong wrong_record record_time before ks ≡ false → length (bodies_for ks) % 2 ≡ 0
unfolding some_wrong bodies_for
even_bodies before [] w = refl
even_bodies before (k ∷ ks) w =
    let p = neither (wrong_record before k) (some_wrong wrong_record record_time k.time ks) w in
    let q = neither (wrong_field k.position k.direction (length k.body)) (ltb k.time before) p.0 in
    omega (
      arith,
      length-append k.body (bodies_for ks),
      (field_right k.position k.direction (length k.body) q.0).size_even,
      even_bodies k.time ks p.1,
    )

-- a bundle can hold nothing, and one record more where that one is right and there is room
pub holdable_none : Holdable []
unfolding some_wrong bodies_for chars any
holdable_none = record { few = omega arith; fits = omega arith; fields = refl; timely = tt; range = refl }

pub holdable_last : (ks : List Recorded) (k : Recorded) → Holdable ks → length ks < most_rows
    → first_offset (length ks + 1) + (length (bodies_for ks) + length k.body) ≤ most_bytes → wrong_record (end_of record_time 0 ks) k ≡ false → Timely k
    → any over (chars k.body) ≡ false → Holdable (ks ++ (k ∷ []))
unfolding some_wrong
holdable_last ks k g few fits right time range =
    let more : length (ks ++ (k ∷ [])) ≡ length ks + 1 = length-append ks (k ∷ []) in
    let bodies : bodies_for (ks ++ (k ∷ [])) ≡ bodies_for ks ++ k.body = bodies_for_last ks k in
    record {
      few = omega arith;
      fits = omega (arith, ap length bodies, length-append (bodies_for ks) k.body);
      fields = some_append wrong_record record_time 0 ks (k ∷ []) ∙ rw (g.fields, right);
      timely = all_append Timely ks (k ∷ []) g.timely (time, tt);
      range =
          rw (
            bodies,
            characters_append (bodies_for ks) k.body (even_bodies 0 ks g.fields),
            any_append over (chars (bodies_for ks)) (chars k.body),
            g.range,
          )
          range;
    }

module _ (ks : List Recorded) where
  abbrev rows : List Row
  rows = rows_for (first_offset (length ks)) ks

  behind_count : drop 2 (bundle_of ks) ≡ bytes_of_rows rows ++ bodies_for ks
  behind_count = drop_at (bytes_of 2 (length ks)) (bytes_of_rows rows ++ bodies_for ks) 2 (length_bytes 2 (length ks))

  size_rows : length (bytes_of_rows rows) ≡ 12 * length ks
  size_rows = length_rows_bytes rows ∙ ap (λ (n : ℕ). 12 * n) (length_rows_for (first_offset (length ks)) ks)

  pub length_bundle : length (bundle_of ks) ≡ first_offset (length ks) + length (bodies_for ks)
  length_bundle =
      omega (
        arith,
        length-append (bytes_of 2 (length ks)) (bytes_of_rows rows ++ bodies_for ks),
        length-append (bytes_of_rows rows) (bodies_for ks),
        length_bytes 2 (length ks),
        size_rows,
      )

  module _ (g : Holdable ks) where
    pub count_back : count_of (bundle_of ks) ≡ length ks
    count_back =
        ap number (take_at (bytes_of 2 (length ks)) (bytes_of_rows rows ++ bodies_for ks) 2 (length_bytes 2 (length ks)))
        ∙ number_bytes 2 (length ks) (omega (arith, g.few))

    pub contents_back : contents_of (bundle_of ks) ≡ rows
    contents_back =
        let all : All Fitting rows = fitting_for (first_offset (length ks)) ks (omega arith) g.fits g.timely in
        ap₂ rows_of (count_back ∙ sym (length_rows_for (first_offset (length ks)) ks)) behind_count ∙ rows_back rows (bodies_for ks) all

    pub bodies_back : bodies_of (bundle_of ks) ≡ bodies_for ks
    bodies_back =
        ap (λ (n : ℕ). drop (first_offset n) (bundle_of ks)) count_back ∙ sym (drop-drop (12 * length ks) 2 (bundle_of ks))
        ∙ ap (drop (12 * length ks)) behind_count ∙ drop_at (bytes_of_rows rows) (bodies_for ks) (12 * length ks) size_rows

    pub held_back : records_of (bundle_of ks) ≡ ks
    held_back = ap₂ records_in contents_back bodies_back ∙ records_back (first_offset (length ks)) ks

    pub holdable_sound : SoundBundle (bundle_of ks)
    holdable_sound = record {
      fits = omega (arith, length_bundle, g.fits);
      counted = omega (arith, length_bundle);
      few = rw count_back g.few;
      whole = rw count_back (omega (arith, length_bundle));
      fields = rw contents_back (fields_for 0 (first_offset (length ks)) ks ∙ g.fields);
      places = rw (contents_back, count_back) (places_for (length (bundle_of ks)) (first_offset (length ks)) ks (omega (arith, length_bundle)));
      full = rw (contents_back, count_back) (omega (arith, ends_for (first_offset (length ks)) ks, length_bundle));
      range = rw bodies_back g.range;
    }

    -- the bundle of them is accepted, and has a row for each
    pub holdable_accepted : check_of (bundle_of ks) ≡ reads (length ks)
    holdable_accepted = sound_accepted (bundle_of ks) holdable_sound ∙ ap reads count_back
