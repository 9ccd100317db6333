-- Every lookup answers as before, and what the scan answers is the first place that there is.
use Prim.Native.Nat.{ℕ, zero, suc, ◌+◌, ◌-◌, ◌≤◌, ◌<◌}
use mathlib.Core.Bool.{Bool, true, false}
use mathlib.Core.List.{List, [], ◌∷◌, map}
use mathlib.Core.Path.{◌≡◌, refl, sym, ap, ap₂, ◌∙◌}
use native.Mathlib.Nat.{not-suc-le-zero}
use native.Mathlib.Omega.{arith}
use borrow.Author.Tests.{leb-true, leb-false}
use lib.Dec.{leb}
use lib.ListN.{length, get_or, drop, replicate, length-map, length-drop}
use lib.Seq.{take_at, get_or-drop}
use Rattle.base_rules.specs.Answers.{reads, refusal, refuse, within}
use Rattle.base_rules.proofs.Laws.AnswerLaws.{reads_same}
use Rattle.base_rules.proofs.Laws.ListLaws.{map_drop}
use Rattle.base_rules.proofs.Laws.TestLaws.{not_refused}
use Rattle.base_rules.proofs.Laws.Tests.{by_test, passed}
use Rattle.base_rules.proofs.Laws.ByteLaws.{EachByte}
use Rattle.bundle_rows.specs.Rows.{most_rows}
use Rattle.bundle_rows.specs.declared.Row.{Row}
use Rattle.bundle_check.specs.Bundles.{contents_of, count_of, check_of}
use Rattle.bundle_check.specs.Handing.{row_at, body_at, place_of}
use Rattle.bundle_check.proofs.Laws.Accepted.{accepted_sound}
use Rattle.bundle_check.proofs.Laws.BodyLaws.{count_rows}
use Rattle.bundle_check.proofs.Laws.HandingLaws as handing
use Rattle.bundle_columns.specs.Columns.{columns_of}
use Rattle.bundle_columns.specs.Record.{columns_bytes, columns_from}
use Rattle.bundle_columns.specs.Lookups.{is_position, in_front, first_from, next_at, row_kept, body_kept, next_kept}
use Rattle.bundle_columns.proofs.Laws.Whole.{kept_there, columns_in_order, record_back}

front_map : {A B : Type 0} (test : B → Bool) (f : A → B) (s : List A) → in_front (λ (x : A). test (f x)) s ≡ in_front test (map f s)
unfolding in_front
front_map test f [] = refl
front_map test f (x ∷ s) = rw (front_map test f s)

first_map : {A B : Type 0} (test : B → Bool) (f : A → B) (s : List A) (from : ℕ) → first_from test (map f s) from ≡ first_from (λ (x : A). test (f x)) s from
first_map test f s from =
    let front : in_front test (drop from (map f s)) ≡ in_front (λ x. test (f x)) (drop from s) = ap (in_front test) (sym (map_drop f from s)) ∙ sym
    (front_map test f (drop from s)) in
    ap₂ (λ (n i : ℕ). refuse 39 (leb n (from + i)) (reads (from + i))) (length-map s f) front

module _ (b : List ℕ) (n : ℕ) (bytes : EachByte b) (e : check_of b ≡ reads n) where
  abbrev rows : List Row
  rows = contents_of b

  abbrev lists : List ℕ
  lists = columns_bytes (columns_of rows)

  there : columns_from lists ≡ reads (columns_of rows)
  there = record_back (columns_of rows) (columns_in_order b (count_of b) bytes (accepted_sound b n e).0.few)

  pub row_as_before : (i : ℕ) → row_kept lists i ≡ row_at b i
  unfolding row_kept
  row_as_before i =
      let size : length rows ≡ n = count_rows b n e in
      by_test (leb (length rows) i)
      (λ h. rw (there, h) (sym (handing.row_none b i n e (omega (arith, leb-true (length rows) i h)))))
      (λ h. let inside : i < length rows = leb-false (length rows) i h in
      rw (there, h) (ap reads (kept_there rows i inside) ∙ sym (handing.row_reads b i n e (omega arith))))

  pub body_as_before : (i : ℕ) → body_kept lists i ≡ body_at b i
  body_as_before i = ap (within place_of) (row_as_before i)

  pub next_as_before : (position from : ℕ) → next_kept lists position from ≡ next_at b position from
  unfolding next_kept next_at
  next_as_before position from =
      rw (there, e)
      (ap (λ (l : List ℕ). first_from (is_position position) l from) (take_at (map (λ r. r.position) rows) (replicate (most_rows - length rows) 0) (length rows)
      (length-map rows (λ r. r.position)))
      ∙ first_map (is_position position) (λ r. r.position) rows from)

-- ---- what the scan answers

module _ {A : Type 0} (test : A → Bool) (z : A) where
  front_test : (s : List A) → in_front test s < length s → test (get_or s (in_front test s) z) ≡ true
  unfolding in_front
  front_test [] h = absurd (not-suc-le-zero h)
  front_test (x ∷ s) h = by_test (test x) (λ e. rw (e, e)) (λ e. rw e (front_test s (omega (arith, rw e at h))))

  front_before : (s : List A) (j : ℕ) → j < in_front test s → test (get_or s j z) ≡ false
  unfolding in_front
  front_before [] j h = absurd (not-suc-le-zero h)
  front_before (x ∷ s) zero h = by_test (test x) (λ e. absurd (not-suc-le-zero (rw e at h))) (λ e. e)
  front_before (x ∷ s) (suc j) h = by_test (test x) (λ e. absurd (not-suc-le-zero (rw e at h))) (λ e. front_before s j (omega (arith, rw e at h)))

  -- each place that is passed over has none
  passed_over : (s : List A) (from j : ℕ) → from ≤ j → j < from + in_front test (drop from s) → test (get_or s j z) ≡ false
  passed_over s from j l h =
      let place : from + (j - from) ≡ j = omega arith in
      ap (λ (k : ℕ). test (get_or s k z)) (sym place) ∙ ap test (sym (get_or-drop from s (j - from) z)) ∙ front_before (drop from s) (j - from) (omega arith)

  -- the place that is answered: it is inside, has such an element, and no place between has one
  pub first_found : (s : List A) (from i : ℕ) → first_from test s from ≡ reads i
      → (from ≤ i) × (i < length s) × (test (get_or s i z) ≡ true) × ((j : ℕ) → from ≤ j → j < i → test (get_or s j z) ≡ false)
  first_found s from i e =
      let front : ℕ = in_front test (drop from s) in
      let p = passed 39 (leb (length s) (from + front)) (reads (from + front)) i e in
      let same : from + front ≡ i = reads_same p.1 in
      let inside : from + front < length s = leb-false (length s) (from + front) p.0 in (
        omega arith,
        omega arith,
        ap (λ (k : ℕ). test (get_or s k z)) (sym same) ∙ ap test (sym (get_or-drop from s front z)) ∙ front_test (drop from s) (omega (arith, length-drop from s)),
        λ j l h. passed_over s from j l (omega arith),
      )

  -- where 39 is answered there is none
  pub first_none : (s : List A) (from : ℕ) → first_from test s from ≡ refusal 39 → (j : ℕ) → from ≤ j → j < length s → test (get_or s j z) ≡ false
  first_none s from e j l h =
      by_test (leb (length s) (from + in_front test (drop from s)))
      (λ t. passed_over s from j l (omega (arith, leb-true (length s) (from + in_front test (drop from s)) t)))
      (λ t. absurd (not_refused (sym (rw t at e))))
