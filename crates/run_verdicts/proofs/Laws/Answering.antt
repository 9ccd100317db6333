-- What is answered of a bundle and of columns, by what was tried of them, and that the rows of both are all walked along.
use Prim.Native.Nat.{ℕ, zero, suc, ◌+◌, ◌≤◌, ◌<◌}
use mathlib.Core.Bool.{Bool, true, false, ◌||◌}
use mathlib.Core.List.{List, [], ◌∷◌, ◌++◌}
use mathlib.Core.Path.{◌≡◌, refl, sym, ap, ap₂, ◌∙◌}
use native.Mathlib.Nat.{zero-add}
use native.Mathlib.Omega.{arith}
use borrow.Author.Tests.{ltb-false}
use lib.Dec.{ltb}
use lib.ListN.{length, get_or, take, length-map, get_or-map}
use lib.Seq.{take-suc, take_all}
use Rattle.base_rules.specs.Answers.{reads, refusal, within}
use Rattle.base_rules.specs.Lists.{any}
use Rattle.std.specs.Prelude.{Result, Ok}
use Rattle.base_rules.specs.declared.refusals.Refusal.{Refusal}
use Rattle.base_rules.specs.Shown.{shown}
use Rattle.base_rules.proofs.Laws.ListLaws.{Gathered, gathered_none, gathered_next, gathered_all}
use Rattle.base_rules.proofs.Laws.Tests.{neither, none_at}
use Rattle.bundle_rows.specs.declared.Row.{Row}
use Rattle.bundle_rows.specs.Fields.{wrong_field}
use Rattle.bundle_rows.specs.Rows.{blank_row, unchecked_row, body_in}
use Rattle.bundle_rows.proofs.Laws.RowLaws.{field_right}
use Rattle.bundle_check.specs.Bundles.{check_of}
use Rattle.bundle_check.specs.Records.{records_of, blank_record}
use Rattle.bundle_check.specs.RowRules.{wrong_row, row_time, wrong_rows}
use Rattle.bundle_check.specs.Walks.{end_of}
use Rattle.bundle_check.proofs.Laws.BodyLaws.{few_rows, unchecked_right, unchecked_inside}
use Rattle.bundle_check.proofs.Laws.Walks.{StateWalked, walked_none, walked_next, walked_found, none_wrong}
use Rattle.bundle_columns.specs.Columns.{kept_row, kept_rows}
use Rattle.bundle_columns.specs.Record.{columns_in, columns_from}
use Rattle.bundle_columns.proofs.Laws.Looking.{row_reads}
use Rattle.bundle_columns.proofs.Laws.Turning.{length_kept, kept_at}
use Rattle.run_counting.specs.Ears.{row_with}
use Rattle.run_counting.proofs.Laws.Walking.{record_there, length_records}
use Rattle.run_verdicts.specs.declared.kept.Faults.{Faults}
use Rattle.run_verdicts.specs.declared.Verdicts.{Verdicts}
use Rattle.run_verdicts.specs.Verdicts.{verdicts_of}
use Rattle.run_verdicts.specs.Answering.{verdicts_in, body_past, records_kept, verdicts_kept}
use Rattle.run_verdicts.specs.Walking.{or_blank, column_row, record_from, firsts, records_from, Walkable, Tried, faults_of}
use Rattle.run_verdicts.specs.Shown.{in_places, listed}
use Rattle.run_verdicts.proofs.Laws.Telling.{length_verdicts}

-- ---- the first values of a function that gives the elements of a list are the list

firsts_taken : {A : Type 0} (f : ℕ → A) (l : List A) (d : A) (n : ℕ) → n ≤ length l → ((i : ℕ) → i < n → f i ≡ get_or l i d) → firsts f n ≡ take n l
unfolding firsts
firsts_taken f l d zero h e = refl
firsts_taken f l d (suc n) h e =
    ap₂ (λ (s : List _) (x : _). s ++ (x ∷ [])) (firsts_taken f l d n (omega arith) (λ i j. e i (omega arith))) (e n (omega arith))
    ∙ sym (take-suc l n d (omega arith))

firsts_are : {A : Type 0} (f : ℕ → A) (l : List A) (d : A) (n : ℕ) → length l ≡ n → ((i : ℕ) → i < n → f i ≡ get_or l i d) → firsts f n ≡ l
firsts_are f l d n s e = firsts_taken f l d n (omega arith) e ∙ take_all n l (omega arith)

-- ---- a bundle

module _ (b : List ℕ) where
  pub in_refused : {k : ℕ} → check_of b ≡ refusal k → refusal k ≡ verdicts_in b
  unfolding verdicts_in
  in_refused e = rw e

  module _ {n : ℕ} (e : check_of b ≡ reads n) where
    rows_in : records_from (unchecked_row b) b n ≡ records_of b
    rows_in = firsts_are (record_from (unchecked_row b) b) (records_of b) blank_record n (length_records b n e) (λ i h. sym (record_there b i n e h))

    pub walkable_in : Walkable (unchecked_row b) b n
    walkable_in = record {
      few = few_rows b n e;
      position = λ i h. (unchecked_right b i n e h).position_most;
      inside = λ i h. unchecked_inside b i n e h;
    }

    pub in_reads : ◌≡◌ {A = Result Verdicts Refusal} (Ok (record { count = n; verdicts = in_places (verdicts_of (records_from (unchecked_row b) b n)) }))
        (shown (within listed (verdicts_in b)))
    unfolding verdicts_in
    in_reads =
        let size : n ≡ length (verdicts_of (records_of b)) = sym (length_verdicts [] (records_of b) ∙ length_records b n e) in
        rw (e, rows_in) (λ i. Ok (record { count = size i; verdicts = in_places (verdicts_of (records_of b)) }))

-- ---- columns

module _ {lists : List ℕ} {n : ℕ} (t : Tried lists n) where
  abbrev rows : List Row
  rows = kept_rows (columns_in lists)

  size : length rows ≡ n
  size = length_kept (columns_in lists) 0 (columns_in lists).count ∙ sym t.count

  pub kept_there : (i : ℕ) → i < n → column_row lists i ≡ get_or rows i blank_row
  kept_there i h =
      ap or_blank (row_reads lists i n (record { size = t.size; few = t.few; count = t.count; from = t.from }) h)
      ∙ sym (kept_at (columns_in lists) 0 (columns_in lists).count i blank_row (omega (arith, t.count)) ∙ ap (kept_row (columns_in lists)) (zero-add i))

  -- the loop that tries the rows
  pub record Tries (end i before : ℕ) (field place : Bool) : Type 0 where
    pub fields : StateWalked wrong_row row_time rows 0 i before field
    pub places : Gathered (body_past end) rows i place

  pub tries_none : (end : ℕ) → Tries end 0 0 false false
  tries_none end = record { fields = walked_none; places = gathered_none }

  pub tries_next : {end i before : ℕ} {field place : Bool} {r : Row} → Tries end i before field place → i < n → r ≡ column_row lists i
      → Tries end (i + 1) r.time (field || wrong_row before r) (place || body_past end r)
  tries_next {i = i} g h e =
      let there = e ∙ kept_there i h in
      rw there (record { fields = walked_next blank_row g.fields (omega (arith, size)); places = gathered_next blank_row g.places (omega (arith, size)) })

  pub tries_all : {end i before : ℕ} {field place : Bool} → Tries end i before field place → n ≤ i
      → record { field = field; place = place } ≡ faults_of end rows
  tries_all g h = rw (walked_found g.fields (omega (arith, size)), gathered_all g.places (omega (arith, size)))

  module _ (b : List ℕ) {faults : Faults} (e : faults ≡ faults_of (length b) rows) where
    pub kept_34 : faults.field ≡ true → refusal 34 ≡ verdicts_kept lists b
    unfolding verdicts_kept
    kept_34 f = rw (t.from, sym (ap (λ (x : Faults). x.field) e) ∙ f)

    pub kept_35 : faults.field ≡ false → faults.place ≡ true → refusal 35 ≡ verdicts_kept lists b
    unfolding verdicts_kept
    kept_35 f p = rw (t.from, sym (ap (λ (x : Faults). x.field) e) ∙ f, sym (ap (λ (x : Faults). x.place) e) ∙ p)

    module _ (f : faults.field ≡ false) (p : faults.place ≡ false) where
      fields : wrong_rows 0 rows ≡ false
      fields = sym (ap (λ (x : Faults). x.field) e) ∙ f

      places : any (body_past (length b)) rows ≡ false
      places = sym (ap (λ (x : Faults). x.place) e) ∙ p

      pub walkable-kept : Walkable (column_row lists) b n
      walkable-kept = record {
        few = t.few;
        position =
            λ i h. let r = get_or rows i blank_row in
            let before = end_of row_time 0 (take i rows) in
            let w = none_wrong wrong_row row_time 0 rows i blank_row fields (omega (arith, size)) in
            rw (kept_there i h)
            (field_right r.position r.direction r.length (neither (wrong_field r.position r.direction r.length) (ltb r.time before) w).0
            ).position_most;
        inside =
            λ i h. let r = get_or rows i blank_row in
            rw (kept_there i h) (ltb-false (length b) (r.offset + r.length) (none_at (body_past (length b)) rows blank_row i places (omega (arith, size))));
      }

      rows_kept : records_from (column_row lists) b n ≡ records_kept (columns_in lists) b
      rows_kept =
          firsts_are (record_from (column_row lists) b) (records_kept (columns_in lists) b) (row_with blank_row (body_in b blank_row)) n
          (length-map rows (λ r. row_with r (body_in b r)) ∙ size)
          (λ i h. ap (λ (r : Row). row_with r (body_in b r)) (kept_there i h) ∙ sym (get_or-map (λ r. row_with r (body_in b r)) rows i blank_row))

      pub kept-reads :
          ◌≡◌ {A = Result Verdicts Refusal} (Ok (record { count = n; verdicts = in_places (verdicts_of (records_from (column_row lists) b n)) }))
          (shown (within listed (verdicts_kept lists b)))
      unfolding verdicts_kept
      kept-reads =
          let whole : n ≡ length (verdicts_of (records_kept (columns_in lists) b)) =
          sym (length_verdicts [] (records_kept (columns_in lists) b) ∙ length-map rows (λ r. row_with r (body_in b r)) ∙ size) in
          rw (t.from, fields, places, rows_kept)
          (λ i. Ok (record { count = whole i; verdicts = in_places (verdicts_of (records_kept (columns_in lists) b)) }))

pub kept_refused : (lists b : List ℕ) {k : ℕ} → columns_from lists ≡ refusal k → refusal k ≡ verdicts_kept lists b
unfolding verdicts_kept
kept_refused lists b e = rw e
