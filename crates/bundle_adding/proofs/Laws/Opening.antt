-- Laws of `specs/Opening`.
use Prim.Native.Nat.{ℕ, zero, suc, ◌+◌, ◌*◌, ◌-◌, ◌≤◌}
use mathlib.Core.List.{List, ◌∷◌, ◌++◌, append_assoc}
use mathlib.Core.Path.{◌≡◌, refl, sym, ap, ap₂, ◌∙◌}
use native.Mathlib.Nat.{zero-add}
use native.Mathlib.Omega.{arith}
use lib.ListN.{length, take, drop, length-append}
use lib.Seq.{slice, length-take-le}
use lib.Seq.{take_at, drop_at, drop-drop, length-slice, take-append-le, take-take}
use Rattle.base_lent.specs.Copying.{copied}
use Rattle.base_lent.proofs.Laws.Copying.{copied_fits}
use Rattle.bundle_rows.specs.declared.Row.{Row}
use Rattle.base_numbers.specs.Numbers.{bytes_of}
use Rattle.base_numbers.proofs.Laws.Numbers.{length_bytes}
use Rattle.bundle_rows.specs.Rows.{row_of, rows_of, first_offset, bytes_of_row, bytes_of_rows}
use Rattle.base_rules.proofs.Laws.ListLaws.{drop_take}
use Rattle.bundle_rows.proofs.Laws.RowLaws.{Fitting, length_rows, row_back, length_row, rows_front, rows_same}
use Rattle.bundle_check.specs.Records.{placed_from}
use Rattle.bundle_adding.specs.Inserting.{put_at}
use Rattle.bundle_adding.specs.Writing.{shifted_by, bodies_moved, rows_placed}
use Rattle.bundle_adding.specs.Opening.{bodies_opened, row_opened, contents_opened}

-- ---- a body stands among the bodies, and those behind it move further
slice_front : (f t m : ℕ) (l r : List ℕ) → t ≤ m → m ≤ length l → slice f t (take m l ++ r) ≡ slice f t l
slice_front f t m l r k j =
    ap (drop f) (take-append-le t (take m l) r (omega (arith, length-take-le m l j)) ∙ take-take t m l k)

pub bodies_opened_lem : (from at to : ℕ) (s d : List ℕ) → from ≤ at → at ≤ to → to + 12 + length s ≤ length d
    → bodies_moved from at s (shifted_by (12 + length s) at to d) ≡ bodies_opened from at to s d
bodies_opened_lem from at to s d l m h =
    let size : length (take (at + by) d) ≡ at + by = length-take-le (at + by) d (omega arith) in
    let past : to + (12 + length s) ≡ to + 12 + length s = omega arith in
    rw (
      take-append-le (from + 12) (take (at + by) d) behind (omega arith),
      take-take (from + 12) (at + by) d (omega arith),
      slice_front from at (at + by) d behind (omega arith) (omega arith),
      drop_at (take (at + by) d) behind (at + 12 + length s) (omega arith),
      past,
    )
  where
    by : ℕ
    by = 12 + length s

    behind : List ℕ
    behind = slice at to d ++ drop (to + by) d

-- ---- the new row among the others

pub rows_split : (p m : ℕ) (s : List ℕ) → rows_of (p + m) s ≡ rows_of p s ++ rows_of m (drop (12 * p) s)
unfolding rows_of
rows_split zero m s = rw (zero-add m)
rows_split (suc p) m s =
    let one : suc p + m ≡ suc (p + m) = omega arith in
    let next : 12 + 12 * p ≡ 12 * suc p = omega arith in
    rw one
    (ap (λ (l : List Row). row_of s ∷ l)
    (rows_split p m (drop 12 s) ∙ ap (λ (l : List ℕ). rows_of p (drop 12 s) ++ rows_of m l) (drop-drop (12 * p) 12 s ∙ ap (λ (k : ℕ). drop k s) next)))

pub row_opened_lem : (n p : ℕ) (r : Row) (d : List ℕ) → p ≤ n → first_offset n + 12 ≤ length d
    → copied (shifted_by 12 (first_offset p) (first_offset n) d) (first_offset p) (bytes_of_row r) ≡ row_opened n p r d
row_opened_lem n p r d l h =
    rw (
      copied_fits (front ++ behind) (first_offset p) (bytes_of_row r) (omega (arith, length_row r, length-append front behind, size)),
      take-append-le (first_offset p) front behind (omega (arith, size)),
      take-take (first_offset p) (first_offset p + 12) d (omega arith),
      length_row r,
      drop-drop 12 (first_offset p) (front ++ behind),
      drop_at front behind (first_offset p + 12) size,
    )
  where
    front : List ℕ
    front = take (first_offset p + 12) d

    behind : List ℕ
    behind = slice (first_offset p) (first_offset n) d ++ drop (first_offset n + 12) d

    size : length front ≡ first_offset p + 12
    size = length-take-le (first_offset p + 12) d (omega arith)

module _ (n p : ℕ) (r : Row) (d : List ℕ) (l : p ≤ n) (h : first_offset n + 12 ≤ length d) where
  abbrev rest : List ℕ
  rest = slice (first_offset p) (first_offset n) d ++ drop (first_offset n + 12) d

  size_front : length (take (first_offset p) d) ≡ first_offset p
  size_front = length-take-le (first_offset p) d (omega arith)

  -- the rows in front of it and behind it are the old ones
  rows_parts : rows_of n (drop 2 d) ≡ rows_of p (drop 2 d) ++ rows_of (n - p) (drop (first_offset p) d)
  rows_parts =
      let all : n ≡ p + (n - p) = omega arith in
      ap (λ (m : ℕ). rows_of m (drop 2 d)) all ∙ rows_split p (n - p) (drop 2 d)
      ∙ ap (λ (s : List ℕ). rows_of p (drop 2 d) ++ rows_of (n - p) s) (drop-drop (12 * p) 2 d)

  pub behind_contents : drop (first_offset n + 12) (row_opened n p r d) ≡ drop (first_offset n + 12) d
  behind_contents =
      ap (drop (first_offset n + 12))
      (sym (append_assoc (take (first_offset p) d) (bytes_of_row r) rest)
      ∙ sym (append_assoc (take (first_offset p) d ++ bytes_of_row r) (slice (first_offset p) (first_offset n) d) (drop (first_offset n + 12) d)))
      ∙ drop_at ((take (first_offset p) d ++ bytes_of_row r) ++ slice (first_offset p) (first_offset n) d) (drop (first_offset n + 12) d) (first_offset n + 12)
      (omega (
        arith,
        length-append (take (first_offset p) d ++ bytes_of_row r) (slice (first_offset p) (first_offset n) d),
        length-append (take (first_offset p) d) (bytes_of_row r),
        length_row r,
        size_front,
        length-slice (first_offset p) (first_offset n) d (omega arith),
      ))

  pub rows_opened : Fitting r → rows_of (n + 1) (drop 2 (row_opened n p r d)) ≡ put_at p r (rows_of n (drop 2 d))
  unfolding rows_of
  rows_opened f =
      let all : n + 1 ≡ p + suc (n - p) = omega arith in
      let front : take (first_offset p) (row_opened n p r d) ≡ take (first_offset p) d =
      take_at (take (first_offset p) d) (bytes_of_row r ++ rest) (first_offset p) size_front in
      let behind : drop (first_offset p) (row_opened n p r d) ≡ bytes_of_row r ++ rest =
      drop_at (take (first_offset p) d) (bytes_of_row r ++ rest) (first_offset p) size_front in
      let there : length (rows_of p (drop 2 d)) ≡ p = length_rows p (drop 2 d) in
      rw (all, rows_split p (suc (n - p)) (drop 2 (row_opened n p r d)), drop-drop (12 * p) 2 (row_opened n p r d), behind)
      (ap₂ (λ (x y : List Row). x ++ y) (rows_same p (row_opened n p r d) d front)
      (ap₂ (λ (x : Row) (y : List Row). x ∷ y) (row_back r rest f) (ap (rows_of (n - p)) (drop_at (bytes_of_row r) rest 12 (length_row r)) ∙ old))
      ∙ sym (ap₂ (λ (x y : List Row). x ++ (r ∷ y))
      (ap (take p) rows_parts ∙ take_at (rows_of p (drop 2 d)) (rows_of (n - p) (drop (first_offset p) d)) p there)
      (ap (drop p) rows_parts ∙ drop_at (rows_of p (drop 2 d)) (rows_of (n - p) (drop (first_offset p) d)) p there)))
    where
      old : rows_of (n - p) rest ≡ rows_of (n - p) (drop (first_offset p) d)
      old =
          let size : length (slice (first_offset p) (first_offset n) d)
          ≡ first_offset n - first_offset p = length-slice (first_offset p) (first_offset n) d (omega arith) in
          sym (rows_front (n - p) (first_offset n - first_offset p) rest (omega arith))
          ∙ ap (rows_of (n - p))
          (take_at (slice (first_offset p) (first_offset n) d) (drop (first_offset n + 12) d) (first_offset n - first_offset p) size)
          ∙ ap (rows_of (n - p)) (drop_take (first_offset p) (first_offset n) d)
          ∙ rows_front (n - p) (first_offset n - first_offset p) (drop (first_offset p) d) (omega arith)

  -- and all with their offsets, and the count
  pub contents_opened_lem : Fitting r
      → copied (rows_placed (n + 1) (first_offset n + 12) (row_opened n p r d)) 0 (bytes_of 2 (n + 1)) ≡ contents_opened n p r d
  contents_opened_lem f =
      let next : first_offset (n + 1) ≡ first_offset n + 12 = omega arith in
      rw (rows_opened f, next, behind_contents)
      (copied_fits (two ++ (rows ++ drop (first_offset n + 12) d)) 0 (bytes_of 2 (n + 1))
      (omega (arith, length_bytes 2 (n + 1), length-append two (rows ++ drop (first_offset n + 12) d), count))
      ∙ ap (λ (s : List ℕ). bytes_of 2 (n + 1) ++ s)
      (ap₂ drop (length_bytes 2 (n + 1)) refl ∙ drop_at two (rows ++ drop (first_offset n + 12) d) 2 count))
    where
      two : List ℕ
      two = take 2 (row_opened n p r d)

      rows : List ℕ
      rows = bytes_of_rows (placed_from (first_offset n + 12) (put_at p r (rows_of n (drop 2 d))))

      count : length two ≡ 2
      count = length-take-le 2 (row_opened n p r d) (omega (arith, length-append (take (first_offset p) d) (bytes_of_row r ++ rest), size_front))
