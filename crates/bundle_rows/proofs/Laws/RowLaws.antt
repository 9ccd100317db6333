-- Laws about rows: which one stands at each place, and that a row and its twelve bytes are read back from each other.
use Prim.Native.Nat.{ℕ, zero, suc, ◌+◌, ◌*◌, ◌-◌, ◌%◌, ◌^◌, ◌≤◌, ◌<◌}
use mathlib.Core.List.{List, [], ◌∷◌, ◌++◌, append_assoc, append-nil}
use mathlib.Core.Path.{◌≡◌, refl, sym, ap, ap₂, ◌∙◌}
use native.Mathlib.Nat.{not-suc-le-zero, add-zero}
use native.Mathlib.Omega.{arith}
use mathlib.Core.Bool.{false}
use borrow.Author.Tests.{le-ltb, lt-leb, ltb-false, eqb-false}
use lib.Dec.{ltb, eqb}
use lib.ListN.{length, get_or, take, drop, length-append, length-drop}
use lib.Seq.{drop-drop, get_or-drop, drop-cons, length-take-le, get_or-take, drop_at, take-add}
use Rattle.base_rules.specs.Lists.{at}
use Rattle.base_rules.proofs.Laws.TestLaws.{none}
use Rattle.base_lent.specs.Pieces.{pieces}
use Rattle.base_numbers.specs.Numbers.{number, bytes_of}
use Rattle.base_numbers.proofs.Laws.Numbers.{number_bytes}
use Rattle.base_rules.proofs.Laws.ByteLaws.{EachByte, each_drop, each_take}
use Rattle.base_numbers.proofs.Laws.NumberLaws.{number_below, bytes_read}
use Rattle.bundle_rows.specs.Fields.{wrong_field}
use Rattle.bundle_rows.specs.Lists.{All}
use Rattle.base_rules.proofs.Laws.ListLaws.{drop_take}
use Rattle.bundle_rows.proofs.Laws.Lists.{window}
use Rattle.bundle_rows.specs.Rows.{row_of, most_rows, rows_of, first_offset, blank_row, unchecked_row, bytes_of_row, bytes_of_rows}
use Rattle.bundle_rows.specs.declared.Row.{Row}

-- Laws: how many rows there are, and which row stands at each place.
pub length_rows : (n : ℕ) (s : List ℕ) → length (rows_of n s) ≡ n
unfolding rows_of
length_rows zero s = refl
length_rows (suc n) s = ap suc (length_rows n (drop 12 s))

pub row_at_lem : (n i : ℕ) (s : List ℕ) → i < n → get_or (rows_of n s) i blank_row ≡ row_of (drop (12 * i) s)
unfolding rows_of
row_at_lem zero i s h = absurd (not-suc-le-zero h)
row_at_lem (suc n) zero s h = refl
row_at_lem (suc n) (suc i) s h =
    let e : 12 + 12 * i ≡ 12 * suc i = omega arith in
    row_at_lem n i (drop 12 s) (omega arith) ∙ ap row_of (drop-drop (12 * i) 12 s ∙ ap (λ (k : ℕ). drop k s) e)

-- the row that begins at a place, field by field
pub row_read : (s : List ℕ) (i : ℕ) → record {
  position = at s i;
  direction = at s (i + 1);
  time = number (take 4 (drop (i + 2) s));
  offset = number (take 4 (drop (i + 6) s));
  length = number (take 2 (drop (i + 10) s));
} ≡ row_of (drop i s)
row_read s i = rw (get_or-drop i s 0 0, get_or-drop i s 1 0, add-zero, drop-drop 2 i s, drop-drop 6 i s, drop-drop 10 i s)

-- the row that is read with nothing else asked for
pub row_in : (b : List ℕ) (i : ℕ) → i < most_rows → first_offset (i + 1) ≤ length b → unchecked_row b i ≡ row_of (drop (first_offset i) b)
unfolding unchecked_row
row_in b i h k = rw (lt-leb most_rows i h, le-ltb (length b) (first_offset (i + 1)) k)

-- ---- rows read back from their bytes

-- the fields of a row fit their bytes
pub record Fitting (r : Row) : Type 0 where
  pub time : r.time < 256 ^ 4
  pub offset : r.offset < 256 ^ 4
  pub size : r.length < 256 ^ 2

pub row_back : (r : Row) (s : List ℕ) → Fitting r → row_of (bytes_of_row r ++ s) ≡ r
unfolding bytes_of
row_back r s f =
    let t : number (bytes_of 4 r.time) ≡ r.time = number_bytes 4 r.time f.time in
    let o : number (bytes_of 4 r.offset) ≡ r.offset = number_bytes 4 r.offset f.offset in
    let z : number (bytes_of 2 r.length) ≡ r.length = number_bytes 2 r.length f.size in
    λ i. record { position = r.position; direction = r.direction; time = t i; offset = o i; length = z i }

pub length_row : (r : Row) → length (bytes_of_row r) ≡ 12
unfolding bytes_of
length_row r = refl

pub rows_back : (rows : List Row) (s : List ℕ) → All Fitting rows → rows_of (length rows) (bytes_of_rows rows ++ s) ≡ rows
unfolding rows_of bytes_of_rows
rows_back [] s f = refl
rows_back (r ∷ rows) s f =
    rw (
      append_assoc (bytes_of_row r) (bytes_of_rows rows) s,
      row_back r (bytes_of_rows rows ++ s) f.0,
      drop_at (bytes_of_row r) (bytes_of_rows rows ++ s) 12 (length_row r),
      rows_back rows s f.1,
    )

pub length_rows_bytes : (rows : List Row) → length (bytes_of_rows rows) ≡ 12 * length rows
unfolding bytes_of_rows
length_rows_bytes [] = refl
length_rows_bytes (r ∷ rows) = rw (length-append (bytes_of_row r) (bytes_of_rows rows), length_row r, length_rows_bytes rows) (omega arith)

pub rows_bytes_append : (l m : List Row) → bytes_of_rows (l ++ m) ≡ bytes_of_rows l ++ bytes_of_rows m
unfolding bytes_of_rows
rows_bytes_append [] m = refl
rows_bytes_append (r ∷ l) m = rw (rows_bytes_append l m, append_assoc (bytes_of_row r) (bytes_of_rows l) (bytes_of_rows m))

-- the same as pieces
pub rows_pieces : (rows : List Row) → pieces bytes_of_row rows ≡ bytes_of_rows rows
unfolding bytes_of_rows
rows_pieces [] = refl
rows_pieces (r ∷ rows) = ap (λ (l : List ℕ). bytes_of_row r ++ l) (rows_pieces rows)

pub one_row : (r : Row) → bytes_of_rows (r ∷ []) ≡ bytes_of_row r
unfolding bytes_of_rows
one_row r = append-nil (bytes_of_row r)

-- ---- bytes written back from their rows

-- so many bytes of a list that has them
pub bytes_taken : (k : ℕ) (s : List ℕ) → k ≤ length s → EachByte s → bytes_of k (number (take k s)) ≡ take k s
bytes_taken k s h p = ap (λ (n : ℕ). bytes_of n (number (take k s))) (sym (length-take-le k s h)) ∙ bytes_read (take k s) (each_take k s p)

row_whole : (s : List ℕ) → 12 ≤ length s → EachByte s → bytes_of_row (row_of s) ≡ take 12 s
row_whole s h p =
    rw (
      bytes_taken 4 (drop 2 s) (omega (arith, length-drop 2 s)) (each_drop 2 s p),
      bytes_taken 4 (drop 6 s) (omega (arith, length-drop 6 s)) (each_drop 6 s p),
      bytes_taken 2 (drop 10 s) (omega (arith, length-drop 10 s)) (each_drop 10 s p),
    )
    parts
  where
    two : take 2 s ≡ get_or s 0 0 ∷ (get_or s 1 0 ∷ [])
    two = ap (take 2) (drop-cons s 0 0 (omega arith) ∙ ap (λ (l : List ℕ). get_or s 0 0 ∷ l) (drop-cons s 1 0 (omega arith)))

    parts : get_or s 0 0 ∷ (get_or s 1 0 ∷ (take 4 (drop 2 s) ++ (take 4 (drop 6 s) ++ take 2 (drop 10 s)))) ≡ take 12 s
    parts =
        sym (take-add 2 10 s ∙ ap (λ (l : List ℕ). l ++ take 10 (drop 2 s)) two
        ∙ ap (λ (l : List ℕ). get_or s 0 0 ∷ (get_or s 1 0 ∷ l))
        (take-add 4 6 (drop 2 s) ∙ ap (λ (l : List ℕ). take 4 (drop 2 s) ++ take 6 l) (drop-drop 4 2 s)
        ∙ ap (λ (l : List ℕ). take 4 (drop 2 s) ++ l)
        (take-add 4 2 (drop 6 s) ∙ ap (λ (l : List ℕ). take 4 (drop 6 s) ++ take 2 l) (drop-drop 4 6 s))))

pub rows_whole : (n : ℕ) (s : List ℕ) → 12 * n ≤ length s → EachByte s → bytes_of_rows (rows_of n s) ≡ take (12 * n) s
unfolding rows_of bytes_of_rows
rows_whole zero s h p = refl
rows_whole (suc n) s h p =
    let next : 12 + 12 * n ≡ 12 * suc n = omega arith in
    ap₂ (λ (x y : List ℕ). x ++ y) (row_whole s (omega arith) p) (rows_whole n (drop 12 s) (omega (arith, length-drop 12 s)) (each_drop 12 s p))
    ∙ sym (take-add 12 (12 * n) s) ∙ ap (λ (m : ℕ). take m s) next

-- ---- rows that stand in front of something

row_front : (m : ℕ) (s : List ℕ) → 12 ≤ m → row_of (take m s) ≡ row_of s
row_front m s h =
    rw (
      get_or-take m s 0 0 (omega arith),
      get_or-take m s 1 0 (omega arith),
      window 2 4 m s (omega arith),
      window 6 4 m s (omega arith),
      window 10 2 m s (omega arith),
    )

pub rows_front : (n m : ℕ) (s : List ℕ) → 12 * n ≤ m → rows_of n (take m s) ≡ rows_of n s
unfolding rows_of
rows_front zero m s h = refl
rows_front (suc n) m s h =
    rw (row_front m s (omega arith), drop_take 12 m s)
    (ap (λ (l : List Row). row_of s ∷ l) (rows_front n (m - 12) (drop 12 s) (omega arith)))

rows_cut : (n : ℕ) (x : List ℕ) → rows_of n (drop 2 (take (first_offset n) x)) ≡ rows_of n (drop 2 x)
rows_cut n x = rw (drop_take 2 (first_offset n) x) (rows_front n (first_offset n - 2) (drop 2 x) (omega arith))

pub rows_same : (n : ℕ) (x y : List ℕ) → take (first_offset n) x ≡ take (first_offset n) y → rows_of n (drop 2 x) ≡ rows_of n (drop 2 y)
rows_same n x y e = sym (rows_cut n x) ∙ ap (λ (l : List ℕ). rows_of n (drop 2 l)) e ∙ rows_cut n y

-- ---- the times of lent bytes

pub times_of : (n : ℕ) (s : List ℕ) → EachByte s → All (λ (r : Row). r.time < 256 ^ 4) (rows_of n s)
unfolding rows_of
times_of zero s p = tt
times_of (suc n) s p = (number_below 4 (drop 2 s) (each_drop 2 s p), times_of n (drop 12 s) (each_drop 12 s p))

-- ---- fields that are in their ranges
pub record InRange (position direction size : ℕ) : Type 0 where
  pub position_least : 1 ≤ position
  pub position_most : position ≤ 48
  pub direction_most : direction ≤ 1
  pub size_even : size % 2 ≡ 0
  pub size_least : 2 ≤ size
  pub size_most : size ≤ 1004

pub field_right : (a d n : ℕ) → wrong_field a d n ≡ false → InRange a d n
field_right a d n e =
    let p = none (ltb a 1) (ltb 48 a ∷ (ltb 1 d ∷ (eqb (n % 2) 1 ∷ (ltb n 2 ∷ (ltb 1004 n ∷ []))))) e in
    record {
      position_least = ltb-false a 1 p.0;
      position_most = ltb-false 48 a p.1.0;
      direction_most = ltb-false 1 d p.1.1.0;
      size_even = omega (arith, eqb-false (n % 2) 1 p.1.1.1.0);
      size_least = ltb-false n 2 p.1.1.1.1.0;
      size_most = ltb-false 1004 n p.1.1.1.1.1.0;
    }
