-- Laws of `specs/Writing`.
use Prim.Native.Nat.{ℕ, suc, ◌+◌, ◌*◌, ◌-◌, ◌≤◌, ◌<◌, zero-le}
use mathlib.Core.List.{List, [], ◌∷◌, ◌++◌, append_assoc, append-nil}
use mathlib.Core.Path.{◌≡◌, refl, sym, ap, ap₂, ◌∙◌, subst}
use native.Mathlib.Numerals.{add-one}
use native.Mathlib.Omega.{arith}
use lib.ListN.{length, get_or, take, drop, set, length-set, length-append, length-drop, take-append-drop, get_or-append, drop_of_length-le}
use lib.Seq.{slice, slice_empty, slice-cons, take-suc, set_at, length-take-le, get_or-take, append_snoc}
use lib.Seq.{take_at, drop_at, drop-drop, drop-cons, length-slice}
use Rattle.base_lent.specs.Copying.{copied}
use Rattle.base_lent.proofs.Laws.Copying.{copied_fits}
use Rattle.bundle_rows.specs.declared.Row.{Row}
use Rattle.base_numbers.specs.Numbers.{bytes_of}
use Rattle.base_numbers.proofs.Laws.Numbers.{length_bytes}
use Rattle.bundle_rows.specs.Rows.{most_rows, row_of, rows_of, first_offset, blank_row, unchecked_row, bytes_of_row, bytes_of_rows}
use Rattle.bundle_rows.proofs.Laws.RowLaws.{length_rows, row_at_lem, row_in, length_row, length_rows_bytes}
use Rattle.bundle_check.specs.Bundles.{most_bytes}
use Rattle.bundle_check.specs.Records.{moved_to, placed_from}
use Rattle.bundle_check.proofs.Laws.HoldingLaws.{length_placed}
use Rattle.bundle_adding.specs.Writing.{shifted_by, bodies_moved, rows_placed, contents_grown}

-- ---- a loop that moves up, from the end down
pub record Shifting (by : ℕ) (d : List ℕ) (from to i : ℕ) (e : List ℕ) : Type 0 where
  pub down : from ≤ i
  pub inside : i ≤ to
  pub room : to + by ≤ length d
  pub same : length e ≡ length d
  pub so : e ≡ shifted_by by i to d

module _ {by : ℕ} {d : List ℕ} {from to : ℕ} where
  pub shifting_none : from ≤ to → to + by ≤ length d → Shifting by d from to to d
  shifting_none l h = record { down = l; inside = omega arith; room = h; same = refl; so = rw (slice_empty to d) (sym (take-append-drop (to + by) d)) }

  shifting_step : {i : ℕ} {e : List ℕ} → Shifting by d from to (suc i) e → from ≤ i → Shifting by d from to i (set e (i + by) (get_or e i 0))
  shifting_step {i} {e} g l = record {
    down = l;
    inside = omega (arith, g.inside);
    room = g.room;
    same = length-set e (i + by) (get_or e i 0) ∙ g.same;
    so =
        ap (set e (i + by)) moves ∙ ap (λ (l : List ℕ). set l (i + by) (get_or d i 0)) parts
        ∙ set_at (take (i + by) d) (get_or d (i + by) 0) rest (get_or d i 0) (i + by) (length-take-le (i + by) d (omega (arith, g.inside, g.room)))
        ∙ ap (λ (l : List ℕ). take (i + by) d ++ (l ++ drop (to + by) d)) (sym (slice-cons i to d 0 (omega (arith, g.inside)) (omega (arith, g.room))));
  }
    where
      rest : List ℕ
      rest = slice (suc i) to d ++ drop (to + by) d

      one : suc i + by ≡ suc (i + by)
      one = omega arith

      -- the byte that moves is still the old one
      moves : get_or e i 0 ≡ get_or d i 0
      moves =
          rw g.so
          (get_or-append (take (suc i + by) d) rest 0 i
          (omega (arith, g.inside, g.room, length-take-le (suc i + by) d (omega (arith, g.inside, g.room))))
          ∙ get_or-take (suc i + by) d i 0 (omega arith))

      -- the byte that it is written over
      parts : e ≡ take (i + by) d ++ (get_or d (i + by) 0 ∷ rest)
      parts =
          g.so ∙ ap (λ (n : ℕ). take n d ++ rest) one
          ∙ ap (λ (l : List ℕ). l ++ rest) (take-suc d (i + by) 0 (omega (arith, g.inside, g.room))) ∙ append_snoc (take (i + by) d) (get_or d (i + by) 0) rest

  pub shifting_next : {i : ℕ} {e : List ℕ} → Shifting by d from to i e → from < i → Shifting by d from to (i - 1) (set e (i - 1 + by) (get_or e (i - 1) 0))
  shifting_next {i} {e} g h =
      let one : i ≡ suc (i - 1) = omega arith in
      shifting_step (subst (λ (n : ℕ). Shifting by d from to n e) one g) (omega arith)

  pub shifting_all : {i : ℕ} {e : List ℕ} → Shifting by d from to i e → i ≤ from → e ≡ shifted_by by from to d
  shifting_all {i} {e} g h =
      let all : i ≡ from = omega (arith, g.down) in
      g.so ∙ ap (λ (n : ℕ). shifted_by by n to d) all

-- ---- the bodies move, and a body stands behind them
pub bodies_moved_lem : (from to : ℕ) (s d : List ℕ) → from ≤ to → to + 12 + length s ≤ length d → copied (shifted_by 12 from to d) (to + 12) s ≡ bodies_moved from to s d
bodies_moved_lem from to s d l h =
    rw (regroup, copied_fits (head ++ drop (to + 12) d) (to + 12) s (omega (arith, all)), front, back)
    (append_assoc (take (from + 12) d) (slice from to d) (s ++ drop (to + 12 + length s) d))
  where
    head : List ℕ
    head = take (from + 12) d ++ slice from to d

    regroup : shifted_by 12 from to d ≡ head ++ drop (to + 12) d
    regroup = sym (append_assoc (take (from + 12) d) (slice from to d) (drop (to + 12) d))

    size : length head ≡ to + 12
    size =
        omega (arith, length-append (take (from + 12) d) (slice from to d), length-take-le (from + 12) d (omega arith), length-slice from to d (omega arith))

    all : length (head ++ drop (to + 12) d) ≡ length d
    all = omega (arith, length-append head (drop (to + 12) d), size, length-drop (to + 12) d)

    front : take (to + 12) (head ++ drop (to + 12) d) ≡ head
    front = take_at head (drop (to + 12) d) (to + 12) size

    back : drop (length s) (drop (to + 12) (head ++ drop (to + 12) d)) ≡ drop (to + 12 + length s) d
    back = ap (drop (length s)) (drop_at head (drop (to + 12) d) (to + 12) size) ∙ drop-drop (length s) (to + 12) d

-- ---- a loop that gives the rows their offsets
pub record Placing (d : List ℕ) (n first i at : ℕ) (e : List ℕ) : Type 0 where
  pub inside : i ≤ n
  pub few : n ≤ most_rows
  pub room : first_offset n ≤ length d
  pub near : at ≤ most_bytes + 65535 * i
  pub same : length e ≡ length d
  pub written : List ℕ
  pub size : length written ≡ 12 * i
  pub so : e ≡ take 2 d ++ (written ++ drop (first_offset i) d)
  pub whole : written ++ bytes_of_rows (placed_from at (drop i (rows_of n (drop 2 d)))) ≡ bytes_of_rows (placed_from first (rows_of n (drop 2 d)))

module _ {d : List ℕ} {n first : ℕ} where
  pub placing_none : n ≤ most_rows → first_offset n ≤ length d → first ≤ most_bytes → Placing d n first 0 first d
  placing_none f h l = record {
    inside = zero-le;
    few = f;
    room = h;
    near = omega arith;
    same = refl;
    written = [];
    size = refl;
    so = sym (take-append-drop 2 d);
    whole = refl;
  }

  module _ {i at : ℕ} {e : List ℕ} (g : Placing d n first i at e) where
    abbrev done : List ℕ
    done = take 2 d ++ g.written

    size_done : length done ≡ first_offset i
    size_done = omega (arith, length-append (take 2 d) g.written, length-take-le 2 d (omega (arith, g.room)), g.size)

    parts : e ≡ done ++ drop (first_offset i) d
    parts = g.so ∙ sym (append_assoc (take 2 d) g.written (drop (first_offset i) d))

    still : drop (first_offset i) e ≡ drop (first_offset i) d
    still = ap (drop (first_offset i)) parts ∙ drop_at done (drop (first_offset i) d) (first_offset i) size_done

    -- the row that is read is still the old one
    pub placing_row : i < n → unchecked_row e i ≡ get_or (rows_of n (drop 2 d)) i blank_row
    placing_row h =
        row_in e i (omega (arith, g.few)) (omega (arith, g.room, g.same)) ∙ ap row_of (still ∙ sym (drop-drop (12 * i) 2 d))
        ∙ sym (row_at_lem n i (drop 2 d) h)

    pub placing_next : {r : Row} {s e' : List ℕ} → i < n → r ≡ unchecked_row e i → r.length < 65536 → s ≡ bytes_of_row (moved_to at r)
        → e' ≡ copied e (2 + 12 * i) s
        → length e' ≡ length e → Placing d n first (i + 1) (at + r.length) e'
    unfolding bytes_of_rows placed_from
    placing_next {r} {s} {e'} h q z b p m = record {
      inside = omega arith;
      few = g.few;
      room = g.room;
      near = omega (arith, g.near);
      same = m ∙ g.same;
      written = g.written ++ s;
      size = omega (arith, length-append g.written s, g.size, twelve);
      so =
          p ∙ copied_fits e (2 + 12 * i) s (omega (arith, twelve, g.same, g.room))
          ∙ rw (front, back) (append_assoc (take 2 d) g.written (s ++ drop (first_offset (i + 1)) d))
          ∙ ap (λ (l : List ℕ). take 2 d ++ l) (sym (append_assoc g.written s (drop (first_offset (i + 1)) d)));
      whole = append_assoc g.written s rest ∙ ap (λ (l : List ℕ). g.written ++ l) (sym ahead) ∙ g.whole;
    }
      where
        rest : List ℕ
        rest = bytes_of_rows (placed_from (at + r.length) (drop (i + 1) (rows_of n (drop 2 d))))

        twelve : length s ≡ 12
        twelve = ap length b ∙ length_row (moved_to at r)

        front : take (2 + 12 * i) e ≡ done
        front = ap (take (first_offset i)) parts ∙ take_at done (drop (first_offset i) d) (first_offset i) size_done

        back : drop (length s) (drop (2 + 12 * i) e) ≡ drop (first_offset (i + 1)) d
        back =
            let on : first_offset i + length s ≡ first_offset (i + 1) = omega (arith, twelve) in
            ap (drop (length s)) still ∙ drop-drop (length s) (first_offset i) d ∙ ap (λ (k : ℕ). drop k d) on

        -- what is still to be written begins with this row
        ahead : bytes_of_rows (placed_from at (drop i (rows_of n (drop 2 d)))) ≡ s ++ rest
        ahead = rw (drop-cons (rows_of n (drop 2 d)) i blank_row (omega (arith, length_rows n (drop 2 d))), ← placing_row h, ← q, add-one, b) refl

  pub placing_all : {i at : ℕ} {e : List ℕ} → Placing d n first i at e → n ≤ i → e ≡ rows_placed n first d
  unfolding bytes_of_rows placed_from
  placing_all {i} {at} {e} g h =
      let all : i ≡ n = omega (arith, g.inside) in
      let none : drop i (rows_of n (drop 2 d)) ≡ [] = drop_of_length-le (rows_of n (drop 2 d)) {i = i} (omega (arith, length_rows n (drop 2 d))) in
      let whole : g.written ≡ bytes_of_rows (placed_from first (rows_of n (drop 2 d))) =
      sym (append-nil g.written) ∙ rw none at g.whole in
      g.so ∙ rw (whole, all)

-- ---- the new row behind them, and the count
pub contents_grown_lem : (n : ℕ) (r : Row) (d : List ℕ) → first_offset n + 12 ≤ length d
    → copied (copied (rows_placed n (first_offset n + 12) d) (first_offset n) (bytes_of_row r)) 0 (bytes_of 2 (n + 1)) ≡ contents_grown n r d
contents_grown_lem n r d h =
    rw (regroup, copied_fits ((take 2 d ++ rows) ++ drop (first_offset n) d) (first_offset n) (bytes_of_row r) (omega (arith, all, length_row r)), front, back)
    (copied_fits behind 0 (bytes_of 2 (n + 1))
    (omega (arith, length_bytes 2 (n + 1), length-append (take 2 d ++ rows) (bytes_of_row r ++ drop (first_offset n + 12) d), size))
    ∙ ap (λ (l : List ℕ). bytes_of 2 (n + 1) ++ l) tail)
  where
    rows : List ℕ
    rows = bytes_of_rows (placed_from (first_offset n + 12) (rows_of n (drop 2 d)))

    behind : List ℕ
    behind = (take 2 d ++ rows) ++ (bytes_of_row r ++ drop (first_offset n + 12) d)

    count : length (take 2 d) ≡ 2
    count = length-take-le 2 d (omega arith)

    size : length (take 2 d ++ rows) ≡ first_offset n
    size =
        omega (
          arith,
          length-append (take 2 d) rows,
          count,
          length_rows_bytes (placed_from (first_offset n + 12) (rows_of n (drop 2 d)))
              ∙ ap (λ (k : ℕ). 12 * k) (length_placed (first_offset n + 12) (rows_of n (drop 2 d)) ∙ length_rows n (drop 2 d)),
        )

    all : length ((take 2 d ++ rows) ++ drop (first_offset n) d) ≡ length d
    all = omega (arith, length-append (take 2 d ++ rows) (drop (first_offset n) d), size, length-drop (first_offset n) d)

    regroup : rows_placed n (first_offset n + 12) d ≡ (take 2 d ++ rows) ++ drop (first_offset n) d
    regroup = sym (append_assoc (take 2 d) rows (drop (first_offset n) d))

    front : take (first_offset n) ((take 2 d ++ rows) ++ drop (first_offset n) d) ≡ take 2 d ++ rows
    front = take_at (take 2 d ++ rows) (drop (first_offset n) d) (first_offset n) size

    back : drop (length (bytes_of_row r)) (drop (first_offset n) ((take 2 d ++ rows) ++ drop (first_offset n) d)) ≡ drop (first_offset n + 12) d
    back =
        ap₂ drop (length_row r) (drop_at (take 2 d ++ rows) (drop (first_offset n) d) (first_offset n) size) ∙ drop-drop 12 (first_offset n) d

    tail : drop (length (bytes_of 2 (n + 1))) behind ≡ rows ++ (bytes_of_row r ++ drop (first_offset n + 12) d)
    tail =
        let rest : List ℕ = bytes_of_row r ++ drop (first_offset n + 12) d in
        ap₂ drop (length_bytes 2 (n + 1)) (append_assoc (take 2 d) rows rest) ∙ drop_at (take 2 d) (rows ++ rest) 2 count
