-- The new bundle, part by part: the count, the rows with their new offsets, and the stretch of the bodies.
use Prim.Native.Nat.{ℕ, ◌+◌, ◌*◌, ◌-◌, ◌≤◌, ◌<◌, zero-le}
use mathlib.Core.List.{List, ◌++◌, map}
use mathlib.Core.Path.{◌≡◌, refl, sym, ap, ap₂, ◌∙◌}
use native.Mathlib.Omega.{arith}
use lib.ListN.{length, get_or, take, drop, length-append, length-drop, length-map, get_or-map}
use lib.Seq.{length-take-le}
use Rattle.base_lent.specs.Copying.{laid, copied}
use Rattle.base_lent.proofs.Laws.Copying.{copied_fits, laid_length}
use Rattle.base_lent.proofs.Laws.PieceLaws.{Pieced, pieced_none, pieced_next, pieced_all}
use Rattle.base_numbers.specs.Numbers.{bytes_of}
use Rattle.base_numbers.proofs.Laws.Numbers.{length_bytes}
use Rattle.bundle_rows.specs.Rows.{most_rows, rows_of, first_offset, blank_row, unchecked_row, bytes_of_row, bytes_of_rows}
use Rattle.bundle_rows.specs.declared.Row.{Row}
use Rattle.bundle_rows.proofs.Laws.Lists.{laid_three}
use Rattle.bundle_rows.proofs.Laws.RowLaws.{length_rows, length_row, rows_pieces, length_rows_bytes}
use Rattle.bundle_check.specs.Bundles.{count_of, contents_of, bodies_of}
use Rattle.bundle_check.specs.Records.{Recorded, records_in, records_of, rows_for, bodies_for, bundle_of, moved_to}
use Rattle.bundle_check.specs.RowRules.{next_offset, wrong_place, wrong_places, bodies_end}
use Rattle.bundle_check.specs.Walks.{end_of}
use Rattle.bundle_check.proofs.Laws.HoldingLaws.{end_least, end_inside, length_records, rows_in}
use Rattle.bundle_check.proofs.Laws.RowRules.{place_right}
use Rattle.bundle_check.proofs.Laws.Walks.{none_wrong}
use Rattle.bundle_salvage.specs.Salvaging.{new_length}
use Rattle.bundle_salvage.specs.Writing.{lowered, lowered_rows, InPlace}
use Rattle.bundle_salvage.proofs.Laws.Parts.{rows_taken, records_taken, bodies_part, placed_lowered}
use Rattle.bundle_salvage.proofs.Laws.Trying.{row_here}

module _ (b : List ℕ) (kept n : ℕ) (p : InPlace b kept n) where
  abbrev rows : List Row
  rows = rows_of kept (drop 2 b)

  abbrev bodies : List ℕ
  bodies = drop (first_offset n) b

  abbrev end : ℕ
  end = bodies_end (first_offset n) rows

  pub end_there : (first_offset n ≤ end) × (end ≤ length b)
  end_there = (end_least (first_offset n) rows, end_inside (length b) (first_offset n) rows p.places p.whole.there)

  end_behind : end ≤ first_offset n + length bodies
  end_behind = omega (arith, end_there.1, length-drop (first_offset n) b, p.whole.there)

  -- no offset is below what it is lowered by
  pub offset_room : (i : ℕ) → i < kept → 12 * (n - kept) ≤ (unchecked_row b i).offset
  offset_room i h =
      let r : Row = get_or rows i blank_row in
      let place : ℕ = end_of next_offset (first_offset n) (take i rows) in
      let q = place_right (length b) place r
      (none_wrong (wrong_place (length b)) next_offset (first_offset n) rows i blank_row p.places (omega (arith, length_rows kept (drop 2 b)))) in
      let least : first_offset n ≤ place = end_least (first_offset n) (take i rows) in
      rw (row_here b kept n i p.whole p.part h) (omega (arith, q.0))

  -- ---- the loop that writes the rows

  pub lowered_none : (d : List ℕ) → first_offset kept ≤ length d → Pieced bytes_of_row 12 d 2 (lowered_rows kept (n - kept) b) 0 d
  lowered_none d h = pieced_none length_row (omega (arith, length-map rows (lowered (n - kept)), length_rows kept (drop 2 b)))

  module _ {d now : List ℕ} {i : ℕ} (g : Pieced bytes_of_row 12 d 2 (lowered_rows kept (n - kept) b) i now) where
    pub lowered_next : i < kept → {r : Row} {s after : List ℕ} → r ≡ unchecked_row b i → s ≡ bytes_of_row (moved_to (r.offset - 12 * (n - kept)) r)
        → after ≡ copied now (2 + 12 * i) s → Pieced bytes_of_row 12 d 2 (lowered_rows kept (n - kept) b) (i + 1) after
    lowered_next h {r} e f k =
        let there : lowered (n - kept) r ≡ get_or (lowered_rows kept (n - kept) b) i (lowered (n - kept) blank_row) =
        ap (lowered (n - kept)) (e ∙ row_here b kept n i p.whole p.part h) ∙ sym (get_or-map (lowered (n - kept)) rows i blank_row) in
        pieced_next g (omega (arith, length-map rows (lowered (n - kept)), length_rows kept (drop 2 b))) (lowered (n - kept) blank_row) (f
        ∙ ap bytes_of_row there) k

    pub lowered_all : kept ≤ i → now ≡ laid d 2 (bytes_of_rows (lowered_rows kept (n - kept) b))
    lowered_all h =
        pieced_all g (omega (arith, length-map rows (lowered (n - kept)), length_rows kept (drop 2 b)))
        ∙ ap (laid d 2) (rows_pieces (lowered_rows kept (n - kept) b))

  -- ---- the whole

  module _ (e : n ≡ count_of b) where
    pub records_kept : take kept (records_of b) ≡ records_in rows bodies
    records_kept =
        records_taken kept (contents_of b) (bodies_of b)
        ∙ ap₂ (λ (l : List Row) (k : ℕ). records_in l (drop (first_offset k) b)) (rows_taken kept (count_of b) (drop 2 b) (omega (arith, p.part))) (sym e)

    pub length_records_kept : length (records_in rows bodies) ≡ kept
    length_records_kept = length_records rows bodies ∙ length_rows kept (drop 2 b)

    pub bodies_kept : bodies_for (records_in rows bodies) ≡ take (end - first_offset n) bodies
    bodies_kept = bodies_part (first_offset n) rows bodies end_behind

    rows_kept : rows_for (first_offset kept) (records_in rows bodies) ≡ lowered_rows kept (n - kept) b
    rows_kept =
        let place : first_offset n ≡ first_offset kept + 12 * (n - kept) = omega (arith, p.part) in
        rows_in (first_offset kept) (first_offset n) rows bodies end_behind
        ∙ placed_lowered (length b) (first_offset kept) (n - kept) rows
        (ap (λ (k : ℕ). wrong_places (length b) k rows) (sym place) ∙ p.places)

    pub new_is : bundle_of (take kept (records_of b)) ≡ bytes_of 2 kept ++ (bytes_of_rows (lowered_rows kept (n - kept) b) ++ take (end - first_offset n) bodies)
    new_is =
        ap bundle_of records_kept
        ∙ ap (λ (k : ℕ). bytes_of 2 k ++ (bytes_of_rows (rows_for (first_offset k) (records_in rows bodies)) ++ bodies_for
        (records_in rows bodies))) length_records_kept
        ∙ ap₂ (λ (l : List Row) (s : List ℕ). bytes_of 2 kept ++ (bytes_of_rows l ++ s)) rows_kept bodies_kept

    pub length_new : length (bundle_of (take kept (records_of b))) ≡ new_length kept n end
    length_new =
        let part : length (take (end - first_offset n) bodies) ≡ end - first_offset n = length-take-le (end - first_offset n) bodies (omega (arith, end_behind)) in
        ap length new_is
        ∙ omega (
          arith,
          length-append (bytes_of 2 kept) (bytes_of_rows (lowered_rows kept (n - kept) b) ++ take (end - first_offset n) bodies),
          length-append (bytes_of_rows (lowered_rows kept (n - kept) b)) (take (end - first_offset n) bodies),
          length_bytes 2 kept,
          length_rows_bytes (lowered_rows kept (n - kept) b),
          length-map rows (lowered (n - kept)),
          length_rows kept (drop 2 b),
        )

    -- what the three steps leave
    pub steps_leave : (d : List ℕ) (to : ℕ) {x y z : List ℕ} → to ≡ end → new_length kept n end ≤ length d → x ≡ copied d 0 (bytes_of 2 kept)
        → y ≡ laid x 2 (bytes_of_rows (lowered_rows kept (n - kept) b)) → z ≡ copied y (first_offset kept) (take (to - first_offset n) bodies)
        → z ≡ laid d 0 (bundle_of (take kept (records_of b)))
    steps_leave d to {x} {y} {z} t room ex ey ez =
        let count : length (bytes_of 2 kept) ≡ 2 = length_bytes 2 kept in
        let size : length (bytes_of_rows (lowered_rows kept (n - kept) b)) ≡ 12 * kept = length_rows_bytes (lowered_rows kept (n - kept) b)
        ∙ ap (λ (k : ℕ). 12 * k) (length-map rows (lowered (n - kept)) ∙ length_rows kept (drop 2 b)) in
        let part : length (take (end - first_offset n) bodies) ≡ end - first_offset n = length-take-le (end - first_offset n) bodies (omega (arith, end_behind)) in
        let first : x ≡ laid d 0 (bytes_of 2 kept) = ex ∙ copied_fits d 0 (bytes_of 2 kept) (omega arith) in
        let long : length x ≡ length d = ap length first ∙ laid_length d (bytes_of 2 kept) 0 (omega arith) in
        let same : length y ≡ length d = ap length ey ∙ laid_length x (bytes_of_rows (lowered_rows kept (n - kept) b)) 2 (omega arith) ∙ long in
        let last : z ≡ laid y (first_offset kept) (take (end - first_offset n) bodies) =
        ez ∙ ap (λ (k : ℕ). copied y (first_offset kept) (take (k - first_offset n) bodies)) t
        ∙ copied_fits y (first_offset kept) (take (end - first_offset n) bodies) (omega arith) in
        laid_three d 0 2 (first_offset kept) (bytes_of 2 kept) (bytes_of_rows (lowered_rows kept (n - kept) b)) (take (end - first_offset n) bodies) zero-le
        (omega arith)
        (omega arith) first ey last
        ∙ ap (laid d 0) (sym new_is)
