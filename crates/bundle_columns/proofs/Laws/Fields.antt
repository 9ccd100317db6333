-- Laws of the lists as they are taken from the rows: which field stands at each place, and that they are the lists of the definition.
use Prim.Native.Nat.{ℕ, zero, suc, ◌+◌, ◌*◌, ◌-◌, ◌^◌, ◌≤◌, ◌<◌, min}
use mathlib.Core.List.{List, ◌∷◌, ◌++◌, map}
use mathlib.Core.Path.{◌≡◌, refl, sym, ap, ap₂, ◌∙◌}
use native.Mathlib.Nat.{not-suc-le-zero, pow-le-pow_right}
use native.Mathlib.Omega.{arith}
use lib.ListN.{length, take, drop, replicate, length-append, length-replicate, get_or-replicate, get_or-append}
use lib.Seq.{drop-drop, get_or-append-add}
use Rattle.base_rules.specs.Lists.{at}
use Rattle.base_lent.specs.Copying.{copied}
use Rattle.base_lent.proofs.Laws.PieceLaws.{Pieced, pieced_none, pieced_next}
use Rattle.base_numbers.specs.Numbers.{number, bytes_of, Numbered}
use Rattle.base_numbers.proofs.Laws.Numbers.{length_bytes}
use Rattle.bundle_rows.specs.Rows.{most_rows, row_of, rows_of}
use Rattle.bundle_rows.specs.declared.Row.{Row}
use Rattle.bundle_rows.proofs.Laws.RowLaws.{length_rows}
use Rattle.bundle_columns.specs.Columns.{list_of, columns_of}
use Rattle.bundle_columns.specs.Record.{columns_bytes, list_bytes}
use Rattle.bundle_columns.specs.Making.{fields_of, fields_in, FieldThere}
use Rattle.bundle_columns.proofs.Laws.Numbers.{number_one}

length_fields : (p w n : ℕ) (s : List ℕ) → length (fields_of p w n s) ≡ n
unfolding fields_of
length_fields p w zero s = refl
length_fields p w (suc n) s = ap suc (length_fields p w n (drop 12 s))

fields_first : (p w n i : ℕ) (s : List ℕ) → i < n → at (fields_of p w n s) i ≡ number (take w (drop p (drop (12 * i) s)))
unfolding fields_of
fields_first p w zero i s h = absurd (not-suc-le-zero h)
fields_first p w (suc n) zero s h = refl
fields_first p w (suc n) (suc i) s h =
    let next : 12 + 12 * i ≡ 12 * suc i = omega arith in
    fields_first p w n i (drop 12 s) (omega arith)
    ∙ ap (λ (l : List ℕ). number (take w (drop p l))) (drop-drop (12 * i) 12 s ∙ ap (λ (k : ℕ). drop k s) next)

pub length_list : (p w n : ℕ) (b : List ℕ) → n ≤ most_rows → length (fields_in p w n b) ≡ most_rows
unfolding fields_in
length_list p w n b h =
    length-append (fields_of p w n (drop 2 b)) (replicate (most_rows - n) 0)
    ∙ omega (arith, length_fields p w n (drop 2 b), length-replicate {A = ℕ} (most_rows - n) 0)

-- ---- one field

pub field_there : (b : List ℕ) (n p w i r : ℕ) → i < n → w ≤ 4 → Numbered b (2 + 12 * i + p) (min w 8) r → FieldThere b n p w i r
unfolding fields_in
field_there b n p w i r h small e =
    let same : min w 8 ≡ w = omega arith in
    let place : 2 + (12 * i + p) ≡ 2 + 12 * i + p = omega arith in
    let width : min w 8 ≤ 8 = omega arith in
    let few : 256 ^ min w 8 ≤ 256 ^ 8 = pow-le-pow_right (omega arith) width in
    record {
      so = λ m.
          e.so ∙ ap (λ (k : ℕ). number (take k (drop (2 + 12 * i + p) b))) same
          ∙ sym (get_or-append (fields_of p w n (drop 2 b)) (replicate (most_rows - n) 0) 0 i (omega (arith, length_fields p w n (drop 2 b)))
          ∙ fields_first p w n i (drop 2 b) h
          ∙ ap (λ (l : List ℕ). number (take w l)) (drop-drop p (12 * i) (drop 2 b) ∙ drop-drop (12 * i + p) 2 b ∙ ap (λ (k : ℕ). drop k b) place));
      fits = omega (arith, e.fits);
    }

pub field_none : (b : List ℕ) (n p w i : ℕ) → n ≤ i → FieldThere b n p w i 0
unfolding fields_in
field_none b n p w i h =
    let size : length (fields_of p w n (drop 2 b)) ≡ n = length_fields p w n (drop 2 b) in
    let place : length (fields_of p w n (drop 2 b)) + (i - n) ≡ i = omega arith in
    record {
      so = λ m.
          sym (ap (at (fields_in p w n b)) (sym place) ∙ get_or-append-add (fields_of p w n (drop 2 b)) (replicate (most_rows - n) 0) (i - n) 0
          ∙ get_or-replicate (most_rows - n) (i - n) 0 0 (omega arith));
      fits = omega arith;
    }

-- ---- the loop that puts a list down

pub list_none : (p w n : ℕ) (b d : List ℕ) (at : ℕ) → n ≤ most_rows → at + w * most_rows ≤ length d → Pieced (bytes_of w) w d at (fields_in p w n b) 0 d
list_none p w n b d at h room = pieced_none (length_bytes w) (rw (length_list p w n b h) room)

pub list_next : {p w n i at r : ℕ} {b d now after : List ℕ} → n ≤ most_rows → w ≤ 4 → Pieced (bytes_of w) w d at (fields_in p w n b) i now → i < most_rows
    → FieldThere b n p w i r → after ≡ copied now (at + w * i) (bytes_of (min w 8) r) → Pieced (bytes_of w) w d at (fields_in p w n b) (i + 1) after
list_next {p} {w} {n} {i} {at} {r} {b} {d} {now} {after} few small g h f e =
    let same : min w 8 ≡ w = omega arith in
    pieced_next g (omega (arith, length_list p w n b few)) 0 (ap₂ bytes_of same (f.so h)) e

-- ---- the lists of the definition

list_same : (f : Row → ℕ) (p w : ℕ) → ((s : List ℕ) → f (row_of s) ≡ number (take w (drop p s))) → (n : ℕ) (s : List ℕ)
    → map f (rows_of n s) ≡ fields_of p w n s
unfolding rows_of fields_of
list_same f p w e zero s = refl
list_same f p w e (suc n) s = ap₂ (λ (x : ℕ) (l : List ℕ). x ∷ l) (e s) (list_same f p w e n (drop 12 s))

list_is : (f : Row → ℕ) (p w : ℕ) → ((s : List ℕ) → f (row_of s) ≡ number (take w (drop p s))) → (n : ℕ) (b : List ℕ)
    → list_of f (rows_of n (drop 2 b)) ≡ fields_in p w n b
unfolding fields_in
list_is f p w e n b = ap₂ (λ (l : List ℕ) (k : ℕ). l ++ replicate (most_rows - k) 0) (list_same f p w e n (drop 2 b)) (length_rows n (drop 2 b))

-- the record of them, list by list
pub lists_are : (n : ℕ) (b : List ℕ) → columns_bytes (columns_of (rows_of n (drop 2 b)))
    ≡ (bytes_of 8 n ++ (list_bytes 1 (fields_in 0 1 n b) ++ list_bytes 1 (fields_in 1 1 n b)))
    ++ (list_bytes 4 (fields_in 2 4 n b) ++ (list_bytes 4 (fields_in 6 4 n b) ++ list_bytes 2 (fields_in 10 2 n b)))
lists_are n b =
    rw (
      list_is (λ r. r.position) 0 1 (λ s. sym (number_one 0 s)) n b,
      list_is (λ r. r.direction) 1 1 (λ s. sym (number_one 1 s)) n b,
      list_is (λ r. r.time) 2 4 (λ s. refl) n b,
      list_is (λ r. r.offset) 6 4 (λ s. refl) n b,
      list_is (λ r. r.length) 10 2 (λ s. refl) n b,
      length_rows n (drop 2 b),
    )
