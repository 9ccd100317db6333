-- A loop that writes records one by one into a buffer: so many stand there, each row at its place with its body behind the body before it.
use Prim.Native.Nat.{ℕ, ◌+◌, ◌*◌, ◌≤◌, ◌<◌, zero-le}
use mathlib.Core.List.{List, [], ◌∷◌, ◌++◌, append_assoc, append-nil}
use mathlib.Core.Path.{◌≡◌, refl, sym, ap, ap₂, ◌∙◌}
use native.Mathlib.Nat.{add-zero}
use native.Mathlib.Omega.{arith}
use lib.ListN.{length, length-append}
use Rattle.base_lent.specs.Copying.{laid, copied}
use Rattle.base_lent.proofs.Laws.Copying.{laid_none, laid_length, laid_on, copied_fits}
use Rattle.base_numbers.specs.Numbers.{bytes_of}
use Rattle.base_numbers.proofs.Laws.Numbers.{length_bytes}
use Rattle.bundle_rows.specs.Rows.{most_rows, first_offset, bytes_of_row, bytes_of_rows, body_in}
use Rattle.bundle_rows.specs.declared.Row.{Row}
use Rattle.bundle_rows.proofs.Laws.Lists.{laid_three}
use Rattle.bundle_rows.proofs.Laws.RowLaws.{length_row, length_rows_bytes, rows_bytes_append, one_row}
use Rattle.bundle_check.specs.Bundles.{most_bytes}
use Rattle.bundle_check.specs.Records.{Recorded, row_for, rows_for, bodies_for, bundle_of, moved_to}
use Rattle.bundle_check.proofs.Laws.HoldingLaws.{record_for}
use Rattle.bundle_check.proofs.Laws.RecordLaws.{length_rows_for, rows_for_last, bodies_for_last, bodies_for_append}
use Rattle.bundle_sweep.proofs.Laws.Laid.{laid_apart}
use Rattle.bundle_joining.specs.Writing.{row_put}

-- where the first body goes
abbrev first : List Recorded → ℕ
first ks = first_offset (length ks)

-- the rows of those that are written, in their bytes
abbrev row_bytes : List Recorded → List Recorded → List ℕ
row_bytes ks done = bytes_of_rows (rows_for (first ks) done)

pub record Writing (d : List ℕ) (ks left : List Recorded) (k at : ℕ) (now : List ℕ) : Type 0 where
  pub few : length ks ≤ most_rows
  pub fits : first ks + length (bodies_for ks) ≤ most_bytes
  pub room : first ks + length (bodies_for ks) ≤ length d
  pub done : List Recorded
  pub whole : done ++ left ≡ ks
  pub count : length done ≡ k
  pub place : at ≡ first ks + length (bodies_for done)
  pub so : now ≡ laid (laid d 2 (row_bytes ks done)) (first ks) (bodies_for done)

pub writing_none : (d : List ℕ) (ks : List Recorded) → length ks ≤ most_rows → first ks + length (bodies_for ks) ≤ most_bytes
    → first ks + length (bodies_for ks) ≤ length d → Writing d ks ks 0 (first ks) d
unfolding rows_for bodies_for bytes_of_rows
writing_none d ks few fits room = record {
  few = few;
  fits = fits;
  room = room;
  done = [];
  whole = refl;
  count = refl;
  place = sym (add-zero (first ks));
  so = sym (laid_none (laid d 2 []) (first ks) ∙ laid_none d 2);
}

module _ {d : List ℕ} {ks left : List Recorded} {k at : ℕ} {now : List ℕ} (g : Writing d ks left k at now) where
  rows_size : length (row_bytes ks g.done) ≡ 12 * k
  rows_size = length_rows_bytes (rows_for (first ks) g.done) ∙ ap (λ (m : ℕ). 12 * m) (length_rows_for (first ks) g.done ∙ g.count)

  all_rows : k + length left ≡ length ks
  all_rows = omega (arith, g.count, length-append g.done left, ap length g.whole)

  all_bodies : length (bodies_for g.done) + length (bodies_for left) ≡ length (bodies_for ks)
  all_bodies =
      omega (
        arith,
        length-append (bodies_for g.done) (bodies_for left),
        ap length (bodies_for_append g.done left),
        ap (λ (l : List Recorded). length (bodies_for l)) g.whole,
      )

  length_first : length (laid d 2 (row_bytes ks g.done)) ≡ length d
  length_first = laid_length d (row_bytes ks g.done) 2 (omega (arith, rows_size, all_rows, g.room))

  pub writing_length : length now ≡ length d
  writing_length =
      ap length g.so
      ∙ laid_length (laid d 2 (row_bytes ks g.done)) (bodies_for g.done) (first ks) (omega (arith, length_first, all_bodies, g.room)) ∙ length_first

  pub writing_near : at ≤ most_bytes
  writing_near = omega (arith, g.place, all_bodies, g.fits)

  -- all are written, behind the count
  pub writing_all : left ≡ [] → (out : List ℕ) → 2 ≤ length out → d ≡ copied out 0 (bytes_of 2 (length ks)) → now ≡ laid out 0 (bundle_of ks)
  writing_all e out two f =
      let all : g.done ≡ ks = sym (append-nil g.done) ∙ ap (λ (l : List Recorded). g.done ++ l) (sym e) ∙ g.whole in
      let size : length (bytes_of 2 (length ks)) ≡ 2 = length_bytes 2 (length ks) in
      laid_three out 0 2 (first ks) (bytes_of 2 (length ks)) (row_bytes ks ks) (bodies_for ks) zero-le (omega arith)
      (omega (arith, rows_size, ap (λ (l : List Recorded). length (row_bytes ks l)) all, all_rows, ap length e))
      (f ∙ copied_fits out 0 (bytes_of 2 (length ks)) (omega arith)) refl
      (g.so ∙ ap (λ (l : List Recorded). laid (laid d 2 (row_bytes ks l)) (first ks) (bodies_for l)) all)

  module _ {x : Recorded} {rest : List Recorded} (e : left ≡ x ∷ rest) where
    pub writing_few : k < most_rows
    writing_few = omega (arith, all_rows, ap length e, g.few)

    below : (length (bodies_for left) ≡ length x.body + length (bodies_for rest)) × (k < length ks)
    unfolding bodies_for
    below = (ap (λ (l : List Recorded). length (bodies_for l)) e ∙ length-append x.body (bodies_for rest), omega (arith, all_rows, ap length e))

    pub writing_end : at + length x.body ≤ most_bytes
    writing_end = omega (arith, g.place, all_bodies, below.0, g.fits)

    more_rows : row_bytes ks g.done ++ bytes_of_row (row_for at x) ≡ row_bytes ks (g.done ++ (x ∷ []))
    more_rows =
        ap (λ (m : ℕ). row_bytes ks g.done ++ bytes_of_row (row_for m x)) g.place
        ∙ ap (λ (l : List ℕ). row_bytes ks g.done ++ l) (sym (one_row (row_for (first ks + length (bodies_for g.done)) x)))
        ∙ sym (rows_bytes_append (rows_for (first ks) g.done) (row_for (first ks + length (bodies_for g.done)) x ∷ []))
        ∙ ap bytes_of_rows (sym (rows_for_last (first ks) g.done x))

    laid_next : laid (laid now (first_offset k) (bytes_of_row (row_for at x))) at x.body
        ≡ laid (laid d 2 (row_bytes ks (g.done ++ (x ∷ [])))) (first ks) (bodies_for (g.done ++ (x ∷ [])))
    laid_next =
        let row : List ℕ = bytes_of_row (row_for at x) in
        let old : List ℕ = laid d 2 (row_bytes ks g.done) in
        let twelve : length row ≡ 12 = length_row (row_for at x) in
        let place : first_offset k ≡ 2 + length (row_bytes ks g.done) = omega (arith, rows_size) in
        let rows : laid old (first_offset k) row ≡ laid d 2 (row_bytes ks (g.done ++ (x ∷ []))) =
        ap (λ (m : ℕ). laid old m row) place ∙ laid_on d 2 (row_bytes ks g.done) row (omega (arith, g.room)) ∙ ap (laid d 2) more_rows in
        let apart : laid now (first_offset k) row ≡ laid (laid d 2 (row_bytes ks (g.done ++ (x ∷ [])))) (first ks) (bodies_for g.done) =
        ap (λ (l : List ℕ). laid l (first_offset k) row) g.so
        ∙ sym (laid_apart old (first_offset k) row (first ks) (omega (arith, twelve, below.1)) (omega (arith, length_first, g.room)) (bodies_for g.done))
        ∙ ap (λ (l : List ℕ). laid l (first ks) (bodies_for g.done)) rows in
        let size : length (row_bytes ks (g.done ++ (x ∷ []))) ≡ 12 * k + 12 =
        omega (arith, ap length more_rows, length-append (row_bytes ks g.done) row, rows_size, twelve) in
        let long : length (laid d 2 (row_bytes ks (g.done ++ (x ∷ [])))) ≡ length d =
        laid_length d (row_bytes ks (g.done ++ (x ∷ []))) 2 (omega (arith, size, below.1, g.room)) in
        ap₂ (λ (l : List ℕ) (m : ℕ). laid l m x.body) apart g.place
        ∙ laid_on (laid d 2 (row_bytes ks (g.done ++ (x ∷ [])))) (first ks) (bodies_for g.done) x.body (omega (arith, long, g.room))
        ∙ ap (laid (laid d 2 (row_bytes ks (g.done ++ (x ∷ [])))) (first ks)) (sym (bodies_for_last g.done x))

    -- one more, as its row of another bundle
    pub writing_next : (b : List ℕ) (r : Row) → x ≡ record_for b r → length (body_in b r) ≡ r.length → {after : List ℕ} → after ≡ row_put b r k at now
        → Writing d ks rest (k + 1) (at + r.length) after
    writing_next b r ex size {after} f =
        let row : List ℕ = bytes_of_row (row_for at x) in
        let same : bytes_of_row (moved_to at r) ≡ row =
        ap (λ (m : ℕ). bytes_of_row (record { position = r.position; direction = r.direction; time = r.time; offset = at; length = m })) (sym size)
        ∙ ap (λ (j : Recorded). bytes_of_row (row_for at j)) (sym ex) in
        let body : body_in b r ≡ x.body = ap (λ (j : Recorded). j.body) (sym ex) in
        let own : length x.body ≡ r.length = ap length (sym body) ∙ size in
        let twelve : length row ≡ 12 = length_row (row_for at x) in
        let there : first_offset k + length row ≤ length now = omega (arith, writing_length, twelve, below.1, g.room) in
        let behind : at + length x.body ≤ length (laid now (first_offset k) row) =
        omega (arith, laid_length now row (first_offset k) there, writing_length, g.place, all_bodies, below.0, g.room) in
        let more : length (bodies_for (g.done ++ (x ∷ []))) ≡ length (bodies_for g.done) + length x.body =
        ap length (bodies_for_last g.done x) ∙ length-append (bodies_for g.done) x.body in
        record {
          few = g.few;
          fits = g.fits;
          room = g.room;
          done = g.done ++ (x ∷ []);
          whole = append_assoc g.done (x ∷ []) rest ∙ ap (λ (l : List Recorded). g.done ++ l) (sym e) ∙ g.whole;
          count = length-append g.done (x ∷ []) ∙ ap (λ (m : ℕ). m + 1) g.count;
          place = omega (arith, g.place, own, more);
          so =
              f ∙ ap₂ (λ (l m : List ℕ). copied (copied now (first_offset k) l) at m) same body
              ∙ ap (λ (l : List ℕ). copied l at x.body) (copied_fits now (first_offset k) row there)
              ∙ copied_fits (laid now (first_offset k) row) at x.body behind ∙ laid_next;
        }
