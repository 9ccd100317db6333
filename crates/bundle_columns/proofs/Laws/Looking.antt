-- What is answered of the lists in a record, by what reading its count answers.
use Prim.Native.Nat.{ℕ, zero, suc, ◌+◌, ◌-◌, ◌≤◌, ◌<◌}
use mathlib.Core.Bool.{Bool, true, false, not, ◌||◌}
use mathlib.Core.List.{List, [], ◌∷◌}
use mathlib.Core.Path.{◌≡◌, refl, sym, ap, ap₂, ◌∙◌}
use native.Mathlib.Nat.{not-suc-le-zero}
use native.Mathlib.Omega.{arith}
use borrow.Author.Tests.{le-leb, lt-leb, ltb-false}
use lib.Dec.{ltb, eqb}
use lib.ListN.{length, take, drop, length-drop}
use lib.Seq.{take-take}
use Rattle.base_rules.specs.Answers.{Answer, reads, refusal, refuse}
use Rattle.base_rules.proofs.Laws.AnswerLaws.{reads_same, shown_same}
use Rattle.base_rules.proofs.Laws.Tests.{neither, not_different}
use Rattle.base_rules.proofs.Laws.TestLaws.{not_refused}
use Rattle.base_numbers.specs.Numbers.{number}
use Rattle.base_lent.specs.Recorded.{no_record}
use Rattle.bundle_rows.specs.Rows.{most_rows}
use Rattle.std.specs.Prelude.{Result, Ok, Err}
use Rattle.base_rules.specs.declared.refusals.Refusal.{Refusal}
use Rattle.base_rules.specs.Shown.{shown, refused_by}
use Rattle.bundle_columns.specs.Columns.{Columns, kept_row}
use Rattle.bundle_columns.specs.Record.{columns_size, numbers_in, columns_in, columns_from}
use Rattle.bundle_columns.specs.Lookups.{is_position, first_from, row_kept, next_kept}
use Rattle.bundle_columns.specs.Shown.{count_kept}

-- the record has another size, or a count over 512
abbrev wrong_record : List ℕ → Bool
wrong_record b = not (eqb (length b) columns_size) || ltb most_rows (number (take 8 b))

-- ---- what is known where the count was read, and where it was not
pub record Taken (b : List ℕ) (n : ℕ) : Type 0 where
  pub size : length b ≡ columns_size
  pub few : n ≤ most_rows
  pub count : n ≡ (columns_in b).count
  pub from : columns_from b ≡ reads (columns_in b)

-- the lists themselves are not looked at for their count
pub count_kept_lem : (b : List ℕ) → count_kept (columns_from b) ≡ refuse no_record (wrong_record b) (reads (number (take 8 b)))
unfolding columns_from
count_kept_lem b = go (wrong_record b)
  where
    go : (t : Bool) → count_kept (refuse no_record t (reads (columns_in b))) ≡ refuse no_record t (reads (number (take 8 b)))
    go true = refl
    go false = refl

from_right : (b : List ℕ) → wrong_record b ≡ false → columns_from b ≡ reads (columns_in b)
unfolding columns_from
from_right b e = rw e

module _ (b : List ℕ) {s : Result ℕ Refusal} (f : s ≡ shown (count_kept (columns_from b))) where
  pub taken : {n : ℕ} → s ≡ Ok n → Taken b n
  taken {n} e = go (wrong_record b) refl (sym (count_kept_lem b) ∙ shown_same (count_kept (columns_from b)) (reads n) (sym f ∙ e))
    where
      go : (t : Bool) → wrong_record b ≡ t → refuse no_record t (reads (number (take 8 b))) ≡ reads n → Taken b n
      go true h g = absurd (not_refused g)
      go false h g =
          let p = neither (not (eqb (length b) columns_size)) (ltb most_rows (number (take 8 b))) h in
          let same : n ≡ number (take 8 b) = sym (reads_same g) in
          record {
            size = not_different (length b) columns_size p.0;
            few = omega (arith, ltb-false most_rows (number (take 8 b)) p.1);
            count = same;
            from = from_right b h;
          }

  pub not_taken : {k : ℕ} → s ≡ Err (refused_by k) → columns_from b ≡ refusal k
  not_taken {k} e = go (columns_from b) (shown_same (count_kept (columns_from b)) (refusal k) (sym f ∙ e))
    where
      go : (a : Answer Columns) → count_kept a ≡ refusal k → a ≡ refusal k
      go (refusal m) g = cc
      go (reads c) g = absurd (not_refused (sym g))

-- ---- what is answered of a row
module _ (b : List ℕ) (i : ℕ) where
  pub row_refused : (k : ℕ) → columns_from b ≡ refusal k → row_kept b i ≡ refusal k
  unfolding row_kept
  row_refused k e = rw e

  pub row_none : (n : ℕ) → Taken b n → n ≤ i → row_kept b i ≡ refusal 39
  unfolding row_kept
  row_none n t h = rw (t.from, ← t.count, le-leb n i h)

  pub row_reads : (n : ℕ) → Taken b n → i < n → row_kept b i ≡ reads (kept_row (columns_in b) i)
  unfolding row_kept
  row_reads n t h = rw (t.from, ← t.count, lt-leb n i h)

-- ---- and of the next row of a position

-- numbers of one byte are the bytes
bytes_in : (n : ℕ) (s : List ℕ) → n ≤ length s → numbers_in 1 n s ≡ take n s
unfolding numbers_in number
bytes_in zero s h = refl
bytes_in (suc n) [] h = absurd (not-suc-le-zero h)
bytes_in (suc n) (x ∷ s) h =
    let one : x + 0 ≡ x = omega arith in
    ap₂ (λ (y : ℕ) (l : List ℕ). y ∷ l) one (bytes_in n s (omega arith))

pub positions_in : (b : List ℕ) (n : ℕ) → length b ≡ columns_size → n ≤ most_rows → take (8 + n - 8) (drop 8 b) ≡ take n (numbers_in 1 most_rows (drop 8 b))
positions_in b n size few =
    let same : 8 + n - 8 ≡ n = omega arith in
    ap (λ (k : ℕ). take k (drop 8 b)) same
    ∙ sym (ap (take n) (bytes_in most_rows (drop 8 b) (omega (arith, length-drop 8 b))) ∙ take-take n most_rows (drop 8 b) few)

module _ (b : List ℕ) (position from : ℕ) where
  pub next_refused : (k : ℕ) → columns_from b ≡ refusal k → next_kept b position from ≡ refusal k
  unfolding next_kept
  next_refused k e = rw e

  pub next_looked : (n : ℕ) → Taken b n → next_kept b position from ≡ first_from (is_position position) (take (8 + n - 8) (drop 8 b)) from
  unfolding next_kept
  next_looked n t =
      rw t.from (ap (λ (k : ℕ). first_from (is_position position) (take k (numbers_in 1 most_rows (drop 8 b))) from) (sym t.count)
      ∙ ap (λ (l : List ℕ). first_from (is_position position) l from) (sym (positions_in b n t.size t.few)))
