-- What is written is a proper bundle: it is accepted, holds exactly the leading rows, and is salvaged as itself.
use Prim.Native.Nat.{ℕ, ◌+◌, ◌-◌, ◌*◌, ◌^◌, ◌≤◌, ◌<◌}
use mathlib.Core.Bool.{false}
use mathlib.Core.List.{List}
use mathlib.Core.Path.{◌≡◌, refl, sym, ap, ap₂, ◌∙◌}
use native.Mathlib.Omega.{arith}
use borrow.Author.Tests.{le-ltb}
use lib.Dec.{ltb}
use lib.ListN.{length, take, drop, length-take, length-drop}
use lib.Seq.{take_all}
use Rattle.base_rules.specs.Answers.{reads}
use Rattle.base_characters.specs.Characters.{over, chars}
use Rattle.base_rules.specs.Lists.{any}
use Rattle.base_rules.proofs.Laws.ByteLaws.{EachByte, each_drop}
use Rattle.bundle_rows.specs.Lists.{All}
use Rattle.bundle_rows.specs.Rows.{most_rows, rows_of, first_offset}
use Rattle.bundle_rows.specs.declared.Row.{Row}
use Rattle.bundle_rows.proofs.Laws.RowLaws.{length_rows, times_of}
use Rattle.bundle_check.specs.Bundles.{most_bytes, count_of, contents_of, bodies_of, check_of, opened, check_rows}
use Rattle.bundle_check.specs.Records.{Recorded, records_in, records_of, bodies_for, bundle_of}
use Rattle.bundle_check.specs.RowRules.{wrong_rows, wrong_places, bodies_end}
use Rattle.bundle_check.proofs.Laws.Accepted.{SoundBundle, accepted_sound}
use Rattle.bundle_check.proofs.Laws.HoldingLaws.{sound_end, length_held, fields_in, timely_in}
use Rattle.bundle_check.proofs.Laws.RecordLaws.{Holdable, holdable_accepted, held_back}
use Rattle.bundle_salvage.specs.declared.leading.Leading.{Leading}
use Rattle.bundle_salvage.specs.declared.Salvaged.{Salvaged}
use Rattle.bundle_salvage.specs.Salvaging.{Keep, new_length, tell_of, leading_rows, salvage_of, new_bundle}
use Rattle.bundle_salvage.proofs.Laws.Answers.{contents_whole, count_is, kept_few, kept_in_place, end_is, end_inside, salvage_is}
use Rattle.bundle_salvage.proofs.Laws.Leading.{leading_keep, leading_all, keep_fields, keep_range, keep_all}
use Rattle.bundle_salvage.proofs.Laws.NewBundle.{records_kept, length_records_kept, bodies_kept, length_new}
use Rattle.bundle_salvage.proofs.Laws.Parts.{rows_taken}

-- ---- where the contents are whole
module _ (b : List ℕ) (n : ℕ) (e : opened b (reads (count_of b)) ≡ reads n) where
  abbrev l : Leading
  l = leading_rows n b

  abbrev rows : List Row
  rows = rows_of l.kept (drop 2 b)

  abbrev bodies : List ℕ
  bodies = drop (first_offset n) b

  abbrev kept : List Recorded
  kept = take l.kept (records_of b)

  same_rows : take l.kept (rows_of n (drop 2 b)) ≡ rows
  same_rows = rows_taken l.kept n (drop 2 b) (kept_few b n e refl)

  rows_keep : Keep b 0 (first_offset n) rows
  rows_keep = rw (← same_rows) (leading_keep b 0 (first_offset n) (rows_of n (drop 2 b)))

  kept_is : kept ≡ records_in rows bodies
  kept_is = records_kept b l.kept n (kept_in_place b n e refl) (count_is b n e)

  size : length kept ≡ l.kept
  size = ap length kept_is ∙ length_records_kept b l.kept n (kept_in_place b n e refl) (count_is b n e)

  pub length_written : length (bundle_of kept) ≡ new_length l.kept n l.end
  length_written =
      length_new b l.kept n (kept_in_place b n e refl) (count_is b n e)
      ∙ ap (λ (k : ℕ). new_length l.kept n k) (sym (end_is b n e refl))

  pub kept_holdable : EachByte b → Holdable kept
  kept_holdable bytes =
      let w = contents_whole b n e in
      let few = kept_few b n e refl in
      let inside = end_inside b n e refl in
      let room : bodies_end (first_offset n) rows ≤ first_offset n + length bodies =
      omega (arith, end_is b n e refl, inside.1, length-drop (first_offset n) b, w.there) in
      rw kept_is (record {
        few = omega (arith, ap length kept_is, size, few, w.few);
        fits = omega (
          arith,
          length_records_kept b l.kept n (kept_in_place b n e refl) (count_is b n e),
          ap length (bodies_kept b l.kept n (kept_in_place b n e refl) (count_is b n e)),
          length-take (bodies_end (first_offset n) rows - first_offset n) bodies,
          few,
          w.fits,
          room,
          w.there,
          length-drop (first_offset n) b,
        );
        fields = fields_in 0 (first_offset n) rows bodies room ∙ keep_fields b 0 (first_offset n) rows rows_keep;
        timely = timely_in rows bodies (times_of l.kept (drop 2 b) (each_drop 2 b bytes));
        range = keep_range b 0 (first_offset n) rows rows_keep;
      })

  pub new_accepted : EachByte b → check_of (bundle_of kept) ≡ reads l.kept
  new_accepted bytes = holdable_accepted kept (kept_holdable bytes) ∙ ap reads size

  pub new_holds : EachByte b → records_of (bundle_of kept) ≡ kept
  new_holds bytes = held_back kept (kept_holdable bytes)

-- ---- a bundle that the check accepts

whole_of : (b : List ℕ) (n : ℕ) → check_of b ≡ reads n → opened b (reads (count_of b)) ≡ reads n
unfolding check_of
whole_of b n e =
    let s = accepted_sound b n e in
    rw (
      le-ltb most_bytes (length b) s.0.fits,
      le-ltb (length b) 2 s.0.counted,
      le-ltb most_rows (count_of b) s.0.few,
      le-ltb (length b) (first_offset (count_of b)) s.0.whole,
      s.1,
    )

pub sound_leading : (b : List ℕ) → SoundBundle b → leading_rows (count_of b) b ≡ record { kept = count_of b; rule = 0; end = length b }
sound_leading b s =
    leading_all b 0 (first_offset (count_of b)) (contents_of b) (keep_all b 0 (first_offset (count_of b)) (contents_of b) s.fields s.places s.range)
    ∙ (λ j. record { kept = length_rows (count_of b) (drop 2 b) j; rule = 0; end = sound_end b s j })

pub sound_salvaged : (b : List ℕ) (n : ℕ) → check_of b ≡ reads n → salvage_of b ≡ reads (record { kept = n; dropped = 0; rule = 0; filled = length b })
sound_salvaged b n e =
    let s = accepted_sound b n e in
    let same : record { kept = n; rule = 0; end = length b } ≡ leading_rows n b =
    ap (λ (m : ℕ). record { kept = m; rule = 0; end = length b }) s.1 ∙ sym (sound_leading b s.0) ∙ ap (λ (m : ℕ). leading_rows m b) (sym s.1) in
    let none : n - n ≡ 0 = omega arith in
    let all : new_length n n (length b) ≡ length b = omega (arith, s.0.whole, s.1) in
    salvage_is b n (whole_of b n e) same
    ∙ rw (le-ltb n n (omega arith), le-ltb (length b) (length b) (omega arith)) (λ j. reads (record { kept = n; dropped = none j; rule = 0; filled = all j }))

pub all_taken : (b : List ℕ) (n : ℕ) → check_of b ≡ reads n → take n (records_of b) ≡ records_of b
all_taken b n e = let s = accepted_sound b n e in take_all n (records_of b) (omega (arith, length_held b s.0, s.1))
