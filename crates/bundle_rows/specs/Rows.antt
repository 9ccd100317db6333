-- 01, "The run bundle": n contents rows of 12 bytes, and the body that a row says is its own.
use Rattle.std.specs.Prelude.{ℕ, zero, suc, ◌+◌, ◌*◌, cond, List, [], ◌∷◌, ◌++◌, ◌≡◌, ltb, leb, length, take, drop}
use Rattle.base_characters.specs.Characters.{chars}
use Rattle.base_rules.specs.Lists.{at}
use Rattle.base_numbers.specs.Numbers.{number, bytes_of}
use Rattle.base_lent.specs.Copying.{laid}
use Rattle.bundle_rows.specs.declared.Row.{Row}

-- position; direction; time 4 bytes; offset 4; body length 2
abbrev pub row_of : List ℕ → Row
row_of s = record {
  position = at s 0;
  direction = at s 1;
  time = number (take 4 (drop 2 s));
  offset = number (take 4 (drop 6 s));
  length = number (take 2 (drop 10 s));
}

-- count n, 0–512
abbrev pub most_rows : ℕ
most_rows = 512

-- so many rows, one behind the other
unfoldable pub rows_of : ℕ → List ℕ → List Row
rows_of zero s = []
rows_of (suc n) s = row_of s ∷ rows_of n (drop 12 s)

-- how many bytes the count and n rows are: the first offset, 2 + 12 × n
abbrev pub first_offset : ℕ → ℕ
first_offset n = 2 + 12 * n

-- a row with nothing in it, for a place past the last row
abbrev pub blank_row : Row
blank_row = record { position = 0; direction = 0; time = 0; offset = 0; length = 0 }

-- the row that stands at a place, with nothing else asked of the bundle; blank where its bytes are not all there
unfoldable pub unchecked_row : List ℕ → ℕ → Row
unchecked_row b i = cond (leb most_rows i) blank_row (cond (ltb (length b) (first_offset (i + 1))) blank_row (row_of (drop (first_offset i) b)))

-- position; direction; time 4 bytes; offset 4; body length 2
abbrev pub bytes_of_row : Row → List ℕ
bytes_of_row r = r.position ∷ (r.direction ∷ (bytes_of 4 r.time ++ (bytes_of 4 r.offset ++ bytes_of 2 r.length)))

unfoldable pub bytes_of_rows : List Row → List ℕ
bytes_of_rows [] = []
bytes_of_rows (r ∷ rows) = bytes_of_row r ++ bytes_of_rows rows

-- a row's body: so many bytes of the bundle from its offset on
abbrev pub body_in : List ℕ → Row → List ℕ
body_in b r = take r.length (drop r.offset b)

-- The characters of row i's body, two bytes each, with nothing else asked of the bundle: as many as there are places for.
unfoldable pub unchecked_characters : List ℕ → ℕ → ℕ → List ℕ
unchecked_characters b i places = take places (chars (body_in b (unchecked_row b i)))

-- What writing a line promises: it stands in the first places and nothing beyond, and the answer is how many characters it has.
pub record Puts (line before : List ℕ) (r : ℕ) (after : List ℕ) : Type 0 where
  pub count : r ≡ length line
  pub holds : after ≡ laid before 0 line
