-- The record of the five lists: `struct skarrowith_contents` of include/skarrowith.h, 6,152 bytes, numbers low byte first.
use Rattle.std.specs.Prelude.{ℕ, zero, suc, not, ◌||◌, List, [], ◌∷◌, ◌++◌, ltb, eqb, length, take, drop}
use Rattle.base_rules.specs.Answers.{Answer, reads, refuse}
use Rattle.base_lent.specs.Pieces.{pieces}
use Rattle.base_numbers.specs.Numbers.{number, bytes_of}
use Rattle.base_lent.specs.Recorded.{no_record}
use Rattle.bundle_rows.specs.Rows.{most_rows}
use Rattle.bundle_columns.specs.Columns.{Columns}

abbrev pub columns_size : ℕ
columns_size = 6152

-- ---- written: count 8 bytes; a position and a direction 1 byte each, a time and an offset 4, a length 2

-- the numbers of a list, each of so many bytes
abbrev pub list_bytes : ℕ → List ℕ → List ℕ
list_bytes width s = pieces (bytes_of width) s

abbrev pub columns_bytes : Columns → List ℕ
columns_bytes c =
    (bytes_of 8 c.count ++ (list_bytes 1 c.positions ++ list_bytes 1 c.directions))
    ++ (list_bytes 4 c.times ++ (list_bytes 4 c.offsets ++ list_bytes 2 c.lengths))

-- ---- read

-- so many numbers, each of so many bytes
unfoldable pub numbers_in : ℕ → ℕ → List ℕ → List ℕ
numbers_in width zero b = []
numbers_in width (suc n) b = number (take width b) ∷ numbers_in width n (drop width b)

abbrev pub columns_in : List ℕ → Columns
columns_in b = record {
  count = number (take 8 b);
  positions = numbers_in 1 most_rows (drop 8 b);
  directions = numbers_in 1 most_rows (drop 520 b);
  times = numbers_in 4 most_rows (drop 1032 b);
  offsets = numbers_in 4 most_rows (drop 3080 b);
  lengths = numbers_in 2 most_rows (drop 5128 b);
}

-- 101 where the bytes are not those of a record, or the count is over 512; everything else is taken as it stands
unfoldable pub columns_from : List ℕ → Answer Columns
columns_from b = refuse no_record (not (eqb (length b) columns_size) || ltb most_rows (number (take 8 b))) (reads (columns_in b))
