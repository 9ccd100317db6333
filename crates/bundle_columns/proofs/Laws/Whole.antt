-- Turning either form into the other loses nothing: rows and lists, lists and their record, lists and the contents of the file.
use Prim.Native.Nat.{ℕ, zero, suc, ◌+◌, ◌*◌, ◌-◌, ◌^◌, ◌≤◌, ◌<◌}
use mathlib.Core.List.{List, [], ◌∷◌, ◌++◌, map, append_assoc, append-nil}
use mathlib.Core.Path.{◌≡◌, refl, sym, ap, ap₂, ◌∙◌}
use native.Mathlib.Nat.{zero-add, one-le-pow}
use native.Mathlib.Omega.{arith}
use borrow.Author.Tests.{eq-eqb, le-ltb}
use lib.ListN.{length, get_or, take, drop, replicate, length-append, length-drop, length-map, length-replicate, take-append-drop, get_or-append, get_or-map}
use lib.Seq.{ext_get_or, drop-cons, drop-drop, drop_at, take_at, take-add}
use Rattle.base_rules.specs.Lists.{at}
use Rattle.base_rules.specs.Answers.{reads}
use Rattle.base_lent.proofs.Laws.PieceLaws.{pieces_length}
use Rattle.base_numbers.specs.Numbers.{number, bytes_of}
use Rattle.base_numbers.proofs.Laws.Numbers.{length_bytes, number_bytes}
use Rattle.base_rules.proofs.Laws.ByteLaws.{EachByte, each_drop}
use Rattle.base_numbers.proofs.Laws.NumberLaws.{number_below}
use Rattle.bundle_rows.specs.Lists.{All}
use Rattle.bundle_rows.specs.Rows.{most_rows, row_of, rows_of, first_offset, blank_row, bytes_of_rows}
use Rattle.bundle_rows.specs.declared.Row.{Row}
use Rattle.bundle_rows.proofs.Laws.Lists.{all_append}
use Rattle.bundle_rows.proofs.Laws.RowLaws.{Fitting, length_rows, rows_back, rows_whole, bytes_taken}
use Rattle.bundle_check.specs.Bundles.{contents_of, count_of, check_of}
use Rattle.bundle_check.proofs.Laws.Accepted.{accepted_sound}
use Rattle.bundle_columns.specs.Columns.{Columns, Listed, InOrder, list_of, columns_of, kept_row, kept_from, kept_rows, contents_bytes}
use Rattle.bundle_columns.specs.Record.{columns_size, list_bytes, columns_bytes, numbers_in, columns_in, columns_from}
use Rattle.bundle_columns.proofs.Laws.Numbers.{number_one}
use Rattle.bundle_columns.proofs.Laws.Turning.{length_kept, kept_at}

-- ---- rows, turned into lists, are kept

listed_at : (f : Row → ℕ) (rows : List Row) (i : ℕ) → f blank_row ≡ 0 → i < length rows → at (list_of f rows) i ≡ f (get_or rows i blank_row)
listed_at f rows i z h =
    get_or-append (map f rows) (replicate (most_rows - length rows) 0) 0 i (rw (length-map rows f) h)
    ∙ ap (get_or (map f rows) i) (sym z) ∙ get_or-map f rows i blank_row

pub kept_there : (rows : List Row) (i : ℕ) → i < length rows → kept_row (columns_of rows) i ≡ get_or rows i blank_row
kept_there rows i h j = record {
  position = listed_at (λ r. r.position) rows i refl h j;
  direction = listed_at (λ r. r.direction) rows i refl h j;
  time = listed_at (λ r. r.time) rows i refl h j;
  offset = listed_at (λ r. r.offset) rows i refl h j;
  length = listed_at (λ r. r.length) rows i refl h j;
}

pub kept_whole : (rows : List Row) → kept_rows (columns_of rows) ≡ rows
kept_whole rows =
    let size : length (kept_from (columns_of rows) 0 (length rows)) ≡ length rows = length_kept (columns_of rows) 0 (length rows) in
    ext_get_or blank_row (kept_rows (columns_of rows)) rows size
    (λ i h. let inside : i < length rows = omega arith in
    kept_at (columns_of rows) 0 (length rows) i blank_row inside ∙ ap (kept_row (columns_of rows)) (zero-add i) ∙ kept_there rows i inside)

-- ---- lists, turned into rows, are the lists again

list_taken : (c : Columns) (f : Row → ℕ) (s : List ℕ) → ((i : ℕ) → f (kept_row c i) ≡ at s i) → (j n : ℕ) → j + n ≤ length s
    → map f (kept_from c j n) ≡ take n (drop j s)
unfolding kept_from
list_taken c f s e j zero h = refl
list_taken c f s e j (suc n) h =
    rw (drop-cons s j 0 (omega arith), e j, list_taken c f s e (suc j) n (omega arith))

list_again : (c : Columns) (f : Row → ℕ) (w : ℕ) (s : List ℕ) → ((i : ℕ) → f (kept_row c i) ≡ at s i) → c.count ≤ most_rows → Listed w c.count s
    → list_of f (kept_rows c) ≡ s
list_again c f w s e few l =
    ap₂ (λ (x : List ℕ) (k : ℕ). x ++ replicate (most_rows - k) 0) (list_taken c f s e 0 c.count (omega (arith, l.size))) (length_kept c 0 c.count)
    ∙ ap (λ (x : List ℕ). take c.count s ++ x) (sym l.rest) ∙ take-append-drop c.count s

pub lists_again : (c : Columns) → InOrder c → columns_of (kept_rows c) ≡ c
lists_again c o j = record {
  count = length_kept c 0 c.count j;
  positions = list_again c (λ r. r.position) 1 c.positions (λ i. refl) o.few o.positions j;
  directions = list_again c (λ r. r.direction) 1 c.directions (λ i. refl) o.few o.directions j;
  times = list_again c (λ r. r.time) 4 c.times (λ i. refl) o.few o.times j;
  offsets = list_again c (λ r. r.offset) 4 c.offsets (λ i. refl) o.few o.offsets j;
  lengths = list_again c (λ r. r.length) 2 c.lengths (λ i. refl) o.few o.lengths j;
}

-- ---- and by the bytes of the file

all_at : (w : ℕ) (s : List ℕ) → All (λ (x : ℕ). x < 256 ^ w) s → (i : ℕ) → at s i < 256 ^ w
all_at w [] p i = omega (arith, one-le-pow w 256 (omega arith))
all_at w (x ∷ s) p zero = p.0
all_at w (x ∷ s) p (suc i) = all_at w s p.1 i

kept_fits : (c : Columns) → InOrder c → (j n : ℕ) → All Fitting (kept_from c j n)
unfolding kept_from
kept_fits c o j zero = tt
kept_fits c o j (suc n) = (
  record {
    time = all_at 4 c.times o.times.fits j;
    offset = all_at 4 c.offsets o.offsets.fits j;
    size = all_at 2 c.lengths o.lengths.fits j;
  },
  kept_fits c o (suc j) n,
)

pub read_again : (c : Columns) → InOrder c → columns_of (rows_of c.count (drop 2 (contents_bytes c))) ≡ c
read_again c o =
    let rows : List Row = kept_rows c in
    let behind : drop 2 (contents_bytes c) ≡ bytes_of_rows rows = drop_at (bytes_of 2 c.count) (bytes_of_rows rows) 2 (length_bytes 2 c.count) in
    let whole : rows_of c.count (drop 2 (contents_bytes c)) ≡ rows =
    ap₂ rows_of (sym (length_kept c 0 c.count)) (behind ∙ sym (append-nil (bytes_of_rows rows))) ∙ rows_back rows [] (kept_fits c o 0 c.count) in
    ap columns_of whole ∙ lists_again c o

pub written_again : (b : List ℕ) (n : ℕ) → EachByte b → check_of b ≡ reads n → contents_bytes (columns_of (contents_of b)) ≡ take (first_offset n) b
written_again b n bytes e =
    let s = accepted_sound b n e in
    let size : length (contents_of b) ≡ count_of b = length_rows (count_of b) (drop 2 b) in
    ap₂ (λ (k : ℕ) (rows : List Row). bytes_of 2 k ++ bytes_of_rows rows) size (kept_whole (contents_of b))
    ∙ ap₂ (λ (x y : List ℕ). x ++ y) (bytes_taken 2 b s.0.counted bytes)
    (rows_whole (count_of b) (drop 2 b) (omega (arith, s.0.whole, length-drop 2 b)) (each_drop 2 b bytes))
    ∙ sym (take-add 2 (12 * count_of b) b) ∙ ap (λ (k : ℕ). take (first_offset k) b) (sym s.1)

-- ---- the lists of bytes are in order

all_map : (P : ℕ → Type 0) (f : Row → ℕ) (rows : List Row) → All (λ (r : Row). P (f r)) rows → All P (map f rows)
all_map P f [] p = tt
all_map P f (r ∷ rows) p = (p.0, all_map P f rows p.1)

all_zero : (w k : ℕ) → All (λ (x : ℕ). x < 256 ^ w) (replicate k 0)
all_zero w zero = tt
all_zero w (suc k) = (omega (arith, one-le-pow w 256 (omega arith)), all_zero w k)

all_rows : (P : Row → Type 0) → ((s : List ℕ) → EachByte s → P (row_of s)) → (n : ℕ) (s : List ℕ) → EachByte s → All P (rows_of n s)
unfolding rows_of
all_rows P f zero s p = tt
all_rows P f (suc n) s p = (f s p, all_rows P f n (drop 12 s) (each_drop 12 s p))

module _ (b : List ℕ) (n : ℕ) (bytes : EachByte b) (few : n ≤ most_rows) where
  listed : (f : Row → ℕ) (p w : ℕ) → ((s : List ℕ) → number (take w (drop p s)) ≡ f (row_of s))
      → Listed w (length (rows_of n (drop 2 b))) (list_of f (rows_of n (drop 2 b)))
  listed f p w e =
      let rows : List Row = rows_of n (drop 2 b) in
      let size : length rows ≡ n = length_rows n (drop 2 b) in
      let same : length (map f rows) ≡ length rows = length-map rows f in
      record {
        size = length-append (map f rows) (replicate (most_rows - length rows) 0) ∙ omega (arith, length-replicate {A = ℕ} (most_rows - length rows) 0);
        fits =
            all_append (λ (x : ℕ). x < 256 ^ w) (map f rows) (replicate (most_rows - length rows) 0)
            (all_map (λ (x : ℕ). x < 256 ^ w) f rows
            (all_rows (λ (r : Row). f r < 256 ^ w) (λ s q. rw (← e s) (number_below w (drop p s) (each_drop p s q))) n (drop 2 b) (each_drop 2 b bytes)))
            (all_zero w (most_rows - length rows));
        rest = drop_at (map f rows) (replicate (most_rows - length rows) 0) (length rows) same;
      }

  pub columns_in_order : InOrder (columns_of (rows_of n (drop 2 b)))
  columns_in_order = record {
    few = omega (arith, length_rows n (drop 2 b));
    positions = listed (λ r. r.position) 0 1 (λ s. number_one 0 s);
    directions = listed (λ r. r.direction) 1 1 (λ s. number_one 1 s);
    times = listed (λ r. r.time) 2 4 (λ s. refl);
    offsets = listed (λ r. r.offset) 6 4 (λ s. refl);
    lengths = listed (λ r. r.length) 10 2 (λ s. refl);
  }

-- ---- lists in order are read back from their record

numbers_back : (w : ℕ) (s r : List ℕ) (n : ℕ) → length s ≡ n → All (λ (x : ℕ). x < 256 ^ w) s → numbers_in w n (list_bytes w s ++ r) ≡ s
unfolding numbers_in
numbers_back w [] r n e p = rw (← e)
numbers_back w (x ∷ s) r n e p =
    rw (
      ← e,
      append_assoc (bytes_of w x) (list_bytes w s) r,
      take_at (bytes_of w x) (list_bytes w s ++ r) w (length_bytes w x),
      drop_at (bytes_of w x) (list_bytes w s ++ r) w (length_bytes w x),
      number_bytes w x p.0,
      numbers_back w s r (length s) refl p.1,
    )

module _ (c : Columns) (o : InOrder c) where
  abbrev p : List ℕ
  p = list_bytes 1 c.positions

  abbrev d : List ℕ
  d = list_bytes 1 c.directions

  abbrev t : List ℕ
  t = list_bytes 4 c.times

  abbrev f : List ℕ
  f = list_bytes 4 c.offsets

  abbrev l : List ℕ
  l = list_bytes 2 c.lengths

  abbrev whole : List ℕ
  whole = bytes_of 8 c.count ++ (p ++ (d ++ (t ++ (f ++ l))))

  bytes_whole : columns_bytes c ≡ whole
  bytes_whole = append_assoc (bytes_of 8 c.count) (p ++ d) (t ++ (f ++ l)) ∙ ap (λ (x : List ℕ). bytes_of 8 c.count ++ x) (append_assoc p d (t ++ (f ++ l)))

  size_of : (w : ℕ) (s : List ℕ) → length s ≡ most_rows → length (list_bytes w s) ≡ w * most_rows
  size_of w s e = pieces_length (bytes_of w) w (length_bytes w) s ∙ ap (λ (k : ℕ). w * k) e

  after_count : drop 8 whole ≡ p ++ (d ++ (t ++ (f ++ l)))
  after_count = drop_at (bytes_of 8 c.count) (p ++ (d ++ (t ++ (f ++ l)))) 8 (length_bytes 8 c.count)

  after_positions : drop 520 whole ≡ d ++ (t ++ (f ++ l))
  after_positions =
      sym (drop-drop 512 8 whole) ∙ ap (drop 512) after_count ∙ drop_at p (d ++ (t ++ (f ++ l))) 512 (size_of 1 c.positions o.positions.size)

  after_directions : drop 1032 whole ≡ t ++ (f ++ l)
  after_directions =
      sym (drop-drop 512 520 whole) ∙ ap (drop 512) after_positions ∙ drop_at d (t ++ (f ++ l)) 512 (size_of 1 c.directions o.directions.size)

  after_times : drop 3080 whole ≡ f ++ l
  after_times = sym (drop-drop 2048 1032 whole) ∙ ap (drop 2048) after_directions ∙ drop_at t (f ++ l) 2048 (size_of 4 c.times o.times.size)

  after_offsets : drop 5128 whole ≡ l
  after_offsets = sym (drop-drop 2048 3080 whole) ∙ ap (drop 2048) after_times ∙ drop_at f l 2048 (size_of 4 c.offsets o.offsets.size)

  back : (w at : ℕ) (s r : List ℕ) → Listed w c.count s → drop at whole ≡ list_bytes w s ++ r → numbers_in w most_rows (drop at whole) ≡ s
  back w at s r q e = ap (numbers_in w most_rows) e ∙ numbers_back w s r most_rows q.size q.fits

  count_in : number (take 8 whole) ≡ c.count
  count_in =
      ap number (take_at (bytes_of 8 c.count) (p ++ (d ++ (t ++ (f ++ l)))) 8 (length_bytes 8 c.count))
      ∙ number_bytes 8 c.count (omega (arith, o.few))

  lists_in : columns_in whole ≡ c
  lists_in j = record {
    count = count_in j;
    positions = back 1 8 c.positions (d ++ (t ++ (f ++ l))) o.positions after_count j;
    directions = back 1 520 c.directions (t ++ (f ++ l)) o.directions after_positions j;
    times = back 4 1032 c.times (f ++ l) o.times after_directions j;
    offsets = back 4 3080 c.offsets l o.offsets after_times j;
    lengths = back 2 5128 c.lengths [] o.lengths (after_offsets ∙ sym (append-nil l)) j;
  }

  size_whole : length whole ≡ columns_size
  size_whole =
      omega (
        arith,
        length-append (bytes_of 8 c.count) (p ++ (d ++ (t ++ (f ++ l)))),
        length-append p (d ++ (t ++ (f ++ l))),
        length-append d (t ++ (f ++ l)),
        length-append t (f ++ l),
        length-append f l,
        length_bytes 8 c.count,
        size_of 1 c.positions o.positions.size,
        size_of 1 c.directions o.directions.size,
        size_of 4 c.times o.times.size,
        size_of 4 c.offsets o.offsets.size,
        size_of 2 c.lengths o.lengths.size,
      )

  pub record_back : columns_from (columns_bytes c) ≡ reads c
  unfolding columns_from
  record_back =
      ap columns_from bytes_whole
      ∙ rw (eq-eqb (length whole) columns_size size_whole, le-ltb most_rows (number (take 8 whole)) (omega (arith, count_in, o.few))) (ap reads lists_in)
