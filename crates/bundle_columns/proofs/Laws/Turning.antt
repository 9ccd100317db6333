-- Laws of turning one form into the other: the loop that writes rows, and what the steps leave, one upon the other.
use Prim.Native.Nat.{ℕ, zero, suc, ◌+◌, ◌*◌, ◌≤◌, ◌<◌, zero-le}
use mathlib.Core.Bool.{true, false}
use mathlib.Core.List.{List, ◌++◌}
use mathlib.Core.Path.{◌≡◌, refl, sym, ap, ◌∙◌}
use native.Mathlib.Nat.{not-suc-le-zero, add-zero, zero-add}
use native.Mathlib.Omega.{arith}
use borrow.Author.Tests.{ltb-false}
use lib.Dec.{ltb}
use lib.ListN.{length, get_or, drop, length-append}
use Rattle.base_rules.specs.Answers.{reads, refusal}
use Rattle.base_lent.specs.Copying.{laid, copied}
use Rattle.base_lent.proofs.Laws.Copying.{copied_fits}
use Rattle.base_lent.proofs.Laws.PieceLaws.{Pieced, pieced_none, pieced_next, pieced_all, pieces_length}
use Rattle.base_numbers.specs.Numbers.{bytes_of}
use Rattle.base_numbers.proofs.Laws.Numbers.{length_bytes}
use Rattle.bundle_rows.specs.Rows.{most_rows, first_offset, blank_row, rows_of, bytes_of_row, bytes_of_rows}
use Rattle.bundle_rows.specs.declared.Row.{Row}
use Rattle.bundle_rows.proofs.Laws.Lists.{laid_two}
use Rattle.bundle_rows.proofs.Laws.RowLaws.{length_row, rows_pieces}
use Rattle.base_rules.specs.Shown.{refused_by}
use Rattle.std.specs.Prelude.{Ok, Err}
use Rattle.bundle_check.specs.Bundles.{contents_of, check_of}
use Rattle.bundle_check.proofs.Laws.Accepted.{accepted_sound}
use Rattle.bundle_check.proofs.Laws.BodyLaws.{count_rows}
use Rattle.bundle_columns.specs.Columns.{Columns, columns_of, kept_row, kept_from, contents_bytes}
use Rattle.bundle_columns.specs.Record.{columns_size, columns_bytes, columns_in, columns_from, list_bytes}
use Rattle.bundle_columns.specs.Making.{fields_in}
use Rattle.bundle_columns.specs.Shown.{columns_into, contents_into, Turns}
use Rattle.bundle_columns.proofs.Laws.Fields.{length_list, lists_are}
use Rattle.bundle_columns.proofs.Laws.Looking.{Taken}

-- ---- the rows of the lists

pub length_kept : (c : Columns) (j n : ℕ) → length (kept_from c j n) ≡ n
unfolding kept_from
length_kept c j zero = refl
length_kept c j (suc n) = ap suc (length_kept c (suc j) n)

pub kept_at : (c : Columns) (j n i : ℕ) (d : Row) → i < n → get_or (kept_from c j n) i d ≡ kept_row c (j + i)
unfolding kept_from
kept_at c j zero i d h = absurd (not-suc-le-zero h)
kept_at c j (suc n) zero d h = rw (add-zero j)
kept_at c j (suc n) (suc i) d h =
    let next : suc j + i ≡ j + suc i = omega arith in
    kept_at c (suc j) n i d (omega arith) ∙ ap (kept_row c) next

module _ (c : Columns) (n : ℕ) (d : List ℕ) where
  pub rows_none : first_offset n ≤ length d → Pieced bytes_of_row 12 d 2 (kept_from c 0 n) 0 d
  rows_none h = pieced_none length_row (rw (length_kept c 0 n) h)

  module _ {i : ℕ} {now : List ℕ} (g : Pieced bytes_of_row 12 d 2 (kept_from c 0 n) i now) where
    pub rows_next : i < n → {r : Row} {s after : List ℕ} → r ≡ kept_row c i → s ≡ bytes_of_row r → after ≡ copied now (2 + 12 * i) s
        → Pieced bytes_of_row 12 d 2 (kept_from c 0 n) (i + 1) after
    rows_next h {r} e f k =
        let there : r ≡ get_or (kept_from c 0 n) i blank_row = e ∙ sym (kept_at c 0 n i blank_row h ∙ ap (kept_row c) (zero-add i)) in
        pieced_next g (omega (arith, length_kept c 0 n)) blank_row (f ∙ ap bytes_of_row there) k

    pub rows_all : n ≤ i → now ≡ laid d 2 (bytes_of_rows (kept_from c 0 n))
    rows_all h = pieced_all g (omega (arith, length_kept c 0 n)) ∙ ap (laid d 2) (rows_pieces (kept_from c 0 n))

-- ---- how many bytes a list has

pub length_listed : (w p v n : ℕ) (b : List ℕ) → n ≤ most_rows → length (list_bytes w (fields_in p v n b)) ≡ w * most_rows
length_listed w p v n b h = pieces_length (bytes_of w) w (length_bytes w) (fields_in p v n b) ∙ ap (λ (k : ℕ). w * k) (length_list p v n b h)

-- ---- what the two functions answer and leave

-- the lists of a bundle
module _ (b out : List ℕ) where
  pub made_short : ltb (length out) columns_size ≡ true → Turns columns_bytes (columns_into b out) out (Err (refused_by 21)) out
  made_short e = rw e (record { answer = refl; left = refl })

  module _ (room : ltb (length out) columns_size ≡ false) where
    pub made_refused : (k : ℕ) → check_of b ≡ refusal k → Turns columns_bytes (columns_into b out) out (Err (refused_by k)) out
    made_refused k e = rw (room, e) (record { answer = refl; left = refl })

    pub made : (n : ℕ) → check_of b ≡ reads n → {a after : List ℕ}
        → a ≡ laid out 0 (bytes_of 8 n ++ (list_bytes 1 (fields_in 0 1 n b) ++ list_bytes 1 (fields_in 1 1 n b)))
        → after ≡ laid a 1032 (list_bytes 4 (fields_in 2 4 n b) ++ (list_bytes 4 (fields_in 6 4 n b) ++ list_bytes 2 (fields_in 10 2 n b)))
        → Turns columns_bytes (columns_into b out) out (Ok n) after
    made n e {a} {after} ea eb =
        let s = accepted_sound b n e in
        let few : n ≤ most_rows = omega (arith, s.0.few, s.1) in
        let front : List ℕ = bytes_of 8 n ++ (list_bytes 1 (fields_in 0 1 n b) ++ list_bytes 1 (fields_in 1 1 n b)) in
        let back : List ℕ = list_bytes 4 (fields_in 2 4 n b) ++ (list_bytes 4 (fields_in 6 4 n b) ++ list_bytes 2 (fields_in 10 2 n b)) in
        let size : 1032 ≡ 0 + length front = omega (
          arith,
          length-append (bytes_of 8 n) (list_bytes 1 (fields_in 0 1 n b) ++ list_bytes 1 (fields_in 1 1 n b)),
          length-append (list_bytes 1 (fields_in 0 1 n b)) (list_bytes 1 (fields_in 1 1 n b)),
          length_bytes 8 n,
          length_listed 1 0 1 n b few,
          length_listed 1 1 1 n b few,
        ) in
        let whole : after ≡ laid out 0 (columns_bytes (columns_of (rows_of n (drop 2 b)))) =
        laid_two out 0 1032 front back zero-le size ea eb ∙ ap (laid out 0) (sym (lists_are n b)) in
        let same : after ≡ laid out 0 (columns_bytes (columns_of (contents_of b))) = whole ∙ ap (λ (m : ℕ). laid out 0 (columns_bytes (columns_of (rows_of m
        (drop 2 b)))))
        s.1 in
        rw (room, e) (record { answer = ap Ok (sym (count_rows b n e)); left = same })

-- the contents of the lists
module _ (b out : List ℕ) where
  pub wrote_refused : (k : ℕ) → columns_from b ≡ refusal k → Turns contents_bytes (contents_into b out) out (Err (refused_by k)) out
  wrote_refused k e = rw e (record { answer = refl; left = refl })

  module _ (n : ℕ) (t : Taken b n) where
    pub wrote_short : ltb (length out) (first_offset n) ≡ true → Turns contents_bytes (contents_into b out) out (Err (refused_by 21)) out
    wrote_short e = rw (t.from, ← t.count, e) (record { answer = refl; left = refl })

    pub wrote : ltb (length out) (first_offset n) ≡ false → {a after : List ℕ} → a ≡ copied out 0 (bytes_of 2 n)
        → after ≡ laid a 2 (bytes_of_rows (kept_from (columns_in b) 0 n)) → Turns contents_bytes (contents_into b out) out (Ok n) after
    wrote e {a} {after} ea eb =
        let room : first_offset n ≤ length out = ltb-false (length out) (first_offset n) e in
        let size : length (bytes_of 2 n) ≡ 2 = length_bytes 2 n in
        let first : a ≡ laid out 0 (bytes_of 2 n) = ea ∙ copied_fits out 0 (bytes_of 2 n) (omega arith) in
        let whole : after ≡ laid out 0 (bytes_of 2 n ++ bytes_of_rows (kept_from (columns_in b) 0 n)) =
        laid_two out 0 2 (bytes_of 2 n) (bytes_of_rows (kept_from (columns_in b) 0 n)) zero-le (omega arith) first eb in
        let fits : ltb (length out) (first_offset (columns_in b).count) ≡ false = ap (λ (m : ℕ). ltb (length out) (first_offset m)) (sym t.count) ∙ e in
        let all : after ≡ laid out 0 (contents_bytes (columns_in b)) = whole
        ∙ ap (λ (m : ℕ). laid out 0 (bytes_of 2 m ++ bytes_of_rows (kept_from (columns_in b) 0 m))) t.count in
        rw (t.from, fits) (record { answer = ap Ok t.count; left = all })
