-- The loop that moves the bodies of the rows that are left, and gives each row its offset.
use Prim.Native.Nat.{ℕ, suc, ◌+◌, ◌*◌, ◌≤◌, ◌<◌, zero-le}
use mathlib.Core.List.{List, [], ◌∷◌, ◌++◌, append_assoc, append-nil}
use mathlib.Core.Path.{◌≡◌, refl, sym, ap, ap₂, ◌∙◌}
use native.Mathlib.Nat.{add-zero}
use native.Mathlib.Numerals.{add-one}
use native.Mathlib.Omega.{arith}
use lib.ListN.{length, get_or, take, drop, length-append, length-drop, drop_of_length-le}
use lib.Seq.{drop-cons, drop-drop, length-take-le}
use Rattle.base_lent.specs.Copying.{laid, copied}
use Rattle.base_lent.specs.Pieces.{pieces}
use Rattle.base_lent.proofs.Laws.Copying.{laid_none, laid_length, laid_on, copied_fits}
use Rattle.bundle_rows.specs.Rows.{row_of, rows_of, first_offset, blank_row, unchecked_row, bytes_of_row, bytes_of_rows, body_in}
use Rattle.bundle_rows.specs.declared.Row.{Row}
use Rattle.bundle_rows.proofs.Laws.RowLaws.{length_rows, length_row, row_at_lem, row_in, rows_same}
use Rattle.bundle_check.specs.Records.{moved_to, placed_from}
use Rattle.bundle_check.specs.RowRules.{next_offset}
use Rattle.bundle_sweep.specs.Writing.{Behind, BodiesInOrder, Placed}
use Rattle.bundle_sweep.proofs.Laws.Laid.{laid_past, laid_before, laid_apart}

abbrev rows_in : List ℕ → ℕ → List Row
rows_in d n = rows_of n (drop 2 d)

pub record Placing (d : List ℕ) (n i at : ℕ) (now : List ℕ) : Type 0 where
  pub order : BodiesInOrder d n
  pub inside : i ≤ n
  pub near : at ≤ length d
  pub written : List ℕ
  pub bodies : List ℕ
  pub size : length written ≡ 12 * i
  pub fill : at ≡ first_offset n + length bodies
  pub rows : written ++ bytes_of_rows (placed_from at (drop i (rows_in d n))) ≡ bytes_of_rows (placed_from (first_offset n) (rows_in d n))
  pub whole : bodies ++ pieces (body_in d) (drop i (rows_in d n)) ≡ pieces (body_in d) (rows_in d n)
  pub left : Behind (length d) at (drop i (rows_in d n))
  pub so : now ≡ laid (laid d (first_offset n) bodies) 2 written

module _ {d : List ℕ} {n : ℕ} where
  pub placing_none : BodiesInOrder d n → Placing d n 0 (first_offset n) d
  placing_none o = record {
    order = o;
    inside = zero-le;
    near = o.there;
    written = [];
    bodies = [];
    size = refl;
    fill = sym (add-zero (first_offset n));
    rows = refl;
    whole = refl;
    left = o.behind;
    so = sym (laid_none (laid d (first_offset n) []) 2 ∙ laid_none d (first_offset n));
  }

  module _ {i at : ℕ} {now : List ℕ} (g : Placing d n i at now) where
    abbrev moved : List ℕ
    moved = laid d (first_offset n) g.bodies

    length_moved : length moved ≡ length d
    length_moved = laid_length d g.bodies (first_offset n) (omega (arith, g.near, g.fill))

    pub placing_length : length now ≡ length d
    placing_length = ap length g.so ∙ laid_length moved g.written 2 (omega (arith, g.size, g.inside, g.order.there, length_moved)) ∙ length_moved

    pub placing_near : at ≤ 65536
    placing_near = omega (arith, g.near, g.order.fits)

    module _ (h : i < n) where
      abbrev row : Row
      row = get_or (rows_in d n) i blank_row

      next : drop i (rows_in d n) ≡ row ∷ drop (suc i) (rows_in d n)
      next = drop-cons (rows_in d n) i blank_row (omega (arith, length_rows n (drop 2 d)))

      right : (at ≤ row.offset) × (row.offset + row.length ≤ length d) × Behind (length d) (next_offset at row) (drop (suc i) (rows_in d n))
      unfolding Behind
      right = rw next at g.left

      -- what stands behind the rows that have their offsets is as the bodies left it
      behind : (p : ℕ) → first_offset i ≤ p → p ≤ length d → drop p now ≡ drop p moved
      behind p l k = ap (drop p) g.so ∙ laid_past moved 2 g.written p (omega (arith, g.size)) (omega (arith, length_moved))

      row_moved : row_of (drop (first_offset i) moved) ≡ row
      row_moved =
          ap row_of (sym (drop-drop (12 * i) 2 moved)) ∙ sym (row_at_lem n i (drop 2 moved) h)
          ∙ ap (λ (l : List Row). get_or l i blank_row)
          (rows_same n moved d (laid_before d (first_offset n) g.bodies (first_offset n) (omega arith) g.order.there))

      pub row_now : unchecked_row now i ≡ row
      row_now =
          row_in now i (omega (arith, g.order.few)) (omega (arith, placing_length, g.order.there))
          ∙ ap row_of (behind (first_offset i) (omega arith) (omega (arith, g.order.there))) ∙ row_moved

      body-now : take row.length (drop row.offset now) ≡ body_in d row
      body-now =
          ap (take row.length)
          (behind row.offset (omega (arith, right.0, g.fill)) (omega (arith, right.1))
          ∙ laid_past d (first_offset n) g.bodies row.offset (omega (arith, right.0, g.fill)) (omega (arith, right.1)))

      module _ {r : Row} (e : r ≡ unchecked_row now i) where
        same_row : r ≡ row
        same_row = e ∙ row_now

        pub placing-room : (at ≤ r.offset) × (r.offset + r.length ≤ length now)
        placing-room = rw (same_row, placing_length) (right.0, right.1)

        pub placing_next : {a s after : List ℕ} → a ≡ laid now at (take r.length (drop r.offset now)) → s ≡ bytes_of_row (moved_to at r)
            → after ≡ copied a (2 + 12 * i) s → Placing d n (i + 1) (at + r.length) after
        unfolding placed_from bytes_of_rows
        placing_next {a} {s} {after} ea es ef =
            let body : List ℕ = body_in d row in
            let bytes : List ℕ = bytes_of_row (moved_to at row) in
            let room = right in
            let size-body : length body ≡ row.length =
            length-take-le row.length (drop row.offset d) (omega (arith, room.1, length-drop row.offset d)) in
            let place : 2 + 12 * i ≡ 2 + length g.written = omega (arith, g.size) in
            let more : laid (laid d (first_offset n) g.bodies) at body ≡ laid d (first_offset n) (g.bodies ++ body) =
            ap (λ (k : ℕ). laid moved k body) g.fill ∙ laid_on d (first_offset n) g.bodies body g.order.there in
            let there : a ≡ laid (laid d (first_offset n) (g.bodies ++ body)) 2 g.written =
            ea ∙ ap (λ (q : Row). laid now at (take q.length (drop q.offset now))) same_row
            ∙ ap₂ (λ (l m : List ℕ). laid l at m) g.so body-now
            ∙ laid_apart moved 2 g.written at (omega (arith, g.size, g.fill)) (omega (arith, length_moved, g.near)) body
            ∙ ap (λ (l : List ℕ). laid l 2 g.written) more in
            let size_all : length (g.bodies ++ body) ≡ length g.bodies + row.length = omega (arith, length-append g.bodies body, size-body) in
            let long : length (laid d (first_offset n) (g.bodies ++ body)) ≡ length d =
            laid_length d (g.bodies ++ body) (first_offset n) (omega (arith, size_all, g.fill, room.0, room.1)) in
            let level : length a ≡ length d =
            ap length there ∙ laid_length (laid d (first_offset n) (g.bodies ++ body)) g.written 2 (omega (arith, g.size, g.order.there, long)) ∙ long in
            let twelve : length bytes ≡ 12 = length_row (moved_to at row) in
            rw (same_row, add-one i)
            (record {
              order = g.order;
              inside = omega arith;
              near = omega (arith, room.0, room.1);
              written = g.written ++ bytes;
              bodies = g.bodies ++ body;
              size = omega (arith, length-append g.written bytes, twelve, g.size);
              fill = omega (arith, size_all, g.fill);
              rows =
                  append_assoc g.written bytes (bytes_of_rows (placed_from (next_offset at row) (drop (suc i) (rows_in d n))))
                  ∙ ap (λ (l : List Row). g.written ++ bytes_of_rows (placed_from at l)) (sym next) ∙ g.rows;
              whole =
                  append_assoc g.bodies body (pieces (body_in d) (drop (suc i) (rows_in d n)))
                  ∙ ap (λ (l : List Row). g.bodies ++ pieces (body_in d) l) (sym next) ∙ g.whole;
              left = room.2;
              so =
                  ef ∙ ap (copied a (2 + 12 * i)) (es ∙ ap (λ (q : Row). bytes_of_row (moved_to at q)) same_row)
                  ∙ copied_fits a (2 + 12 * i) bytes (omega (arith, level, twelve, g.order.there))
                  ∙ ap₂ (λ (l : List ℕ) (k : ℕ). laid l k bytes) there place
                  ∙ laid_on (laid d (first_offset n) (g.bodies ++ body)) 2 g.written bytes (omega (arith, long, g.order.there));
            })

    pub placing_all : n ≤ i → Placed d n at now
    unfolding placed_from bytes_of_rows
    placing_all h =
        let none : drop i (rows_in d n) ≡ [] = drop_of_length-le (rows_in d n) {i = i} (omega (arith, length_rows n (drop 2 d))) in
        let bodies : g.bodies ≡ pieces (body_in d) (rows_in d n) =
        sym (append-nil g.bodies) ∙ ap (λ (l : List Row). g.bodies ++ pieces (body_in d) l) (sym none) ∙ g.whole in
        let written : g.written ≡ bytes_of_rows (placed_from (first_offset n) (rows_in d n)) =
        sym (append-nil g.written) ∙ ap (λ (l : List Row). g.written ++ bytes_of_rows (placed_from at l)) (sym none) ∙ g.rows in
        record {
          ends = g.fill ∙ ap (λ (l : List ℕ). first_offset n + length l) bodies;
          holds = g.so ∙ ap₂ (λ (l m : List ℕ). laid (laid d (first_offset n) l) 2 m) bodies written;
        }
