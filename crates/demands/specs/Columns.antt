-- 02, 2026-10: turning either form of the contents into the other loses nothing, and every lookup answers as before.
use Rattle.std.specs.Prelude.{ℕ, ◌≤◌, ◌<◌, List, ◌≡◌, ◌≢◌, length, get_or, take, drop}
use Rattle.base_rules.specs.Answers.{reads, refusal}
use Rattle.base_rules.specs.Bytes.{Bytes}
use Rattle.bundle_rows.specs.Rows.{rows_of, first_offset, blank_row}
use Rattle.bundle_rows.specs.declared.Row.{Row}
use Rattle.bundle_check.specs.Bundles.{contents_of, check_of}
use Rattle.bundle_check.specs.Example.{sixteen}
use Rattle.bundle_check.specs.Handing.{row_at, body_at}
use Rattle.bundle_columns.specs.Columns.{Columns, InOrder, columns_of, kept_rows, contents_bytes}
use Rattle.bundle_columns.specs.Lookups.{first_from, has_position, next_at, row_kept, body_kept, next_kept}
use Rattle.bundle_columns.specs.Record.{columns_bytes, columns_from}

-- ---- nothing is lost

-- The lists of any rows keep these rows.
abbrev pub ListsKeepTheRows : Type 0
ListsKeepTheRows = (rows : List Row) → kept_rows (columns_of rows) ≡ rows

-- The lists of a bundle, written, are its contents, byte by byte.
abbrev pub ListsWritten : Type 0
ListsWritten = (b : List ℕ) (n : ℕ) → Bytes b → check_of b ≡ reads n → contents_bytes (columns_of (contents_of b)) ≡ take (first_offset n) b

-- The contents of lists, read, are the lists: of any that the file can have,
abbrev pub ContentsRead : Type 0
ContentsRead = (c : Columns) → InOrder c → columns_of (rows_of c.count (drop 2 (contents_bytes c))) ≡ c

-- and a bundle's are such.
abbrev pub ListsInOrder : Type 0
ListsInOrder = (b : List ℕ) (n : ℕ) → Bytes b → check_of b ≡ reads n → InOrder (columns_of (contents_of b))

-- Their record is read back as the same lists.
abbrev pub RecordReadBack : Type 0
RecordReadBack = (c : Columns) → InOrder c → columns_from (columns_bytes c) ≡ reads c

-- ---- every lookup answers as before

module _ (b : List ℕ) (n : ℕ) (bytes : Bytes b) (accepted : check_of b ≡ reads n) where
  -- the record of its lists
  abbrev pub lists : List ℕ
  lists = columns_bytes (columns_of (contents_of b))

  abbrev pub RowAsBefore : Type 0
  RowAsBefore = (i : ℕ) → row_kept lists i ≡ row_at b i

  abbrev pub BodyAsBefore : Type 0
  BodyAsBefore = (i : ℕ) → body_kept lists i ≡ body_at b i

  abbrev pub NextAsBefore : Type 0
  NextAsBefore = (position from : ℕ) → next_kept lists position from ≡ next_at b position from

-- What the next row of a position is: the first from the given one on that has it, and 39 only where there is none.
abbrev pub NextIsFirst : Type 0
NextIsFirst =
    (rows : List Row) (position from i : ℕ) → first_from (has_position position) rows from ≡ reads i
    → (from ≤ i) × (i < length rows) × ((get_or rows i blank_row).position ≡ position)
    × ((j : ℕ) → from ≤ j → j < i → (get_or rows j blank_row).position ≢ position)

abbrev pub NextNoneOnly : Type 0
NextNoneOnly =
    (rows : List Row) (position from : ℕ) → first_from (has_position position) rows from ≡ refusal 39
    → (j : ℕ) → from ≤ j → j < length rows → (get_or rows j blank_row).position ≢ position

-- 01's example: one row, of position 7.
abbrev pub ExampleLookedUp : Type 0
ExampleLookedUp = (next_at sixteen 7 0 ≡ reads 0) × (next_at sixteen 7 1 ≡ refusal 39) × (next_at sixteen 8 0 ≡ refusal 39)
