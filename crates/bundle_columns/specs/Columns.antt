-- 02, 2026-10: in memory the contents are kept as five lists; the file stays as it is.
use Rattle.std.specs.Prelude.{ℕ, zero, suc, ◌-◌, ◌^◌, ◌≤◌, ◌<◌, List, [], ◌∷◌, ◌++◌, map, ◌≡◌, length, drop, replicate}
use Rattle.base_rules.specs.Lists.{at}
use Rattle.base_rules.specs.Answers.{Answer, within}
use Rattle.base_numbers.specs.Numbers.{bytes_of}
use Rattle.bundle_rows.specs.Lists.{All}
use Rattle.bundle_rows.specs.Rows.{most_rows, bytes_of_rows}
use Rattle.bundle_rows.specs.declared.Row.{Row}
use Rattle.bundle_check.specs.Bundles.{contents_of, check_of}

-- a count, and five lists of 512 places (positions, directions, times, offsets, lengths)
pub record Columns : Type 0 where
  pub count : ℕ
  pub positions : List ℕ
  pub directions : List ℕ
  pub times : List ℕ
  pub offsets : List ℕ
  pub lengths : List ℕ

-- one field of each row, and 0 at the places past the last
abbrev pub list_of : (Row → ℕ) → List Row → List ℕ
list_of field rows = map field rows ++ replicate (most_rows - length rows) 0

-- ---- lists as the file can have them: numbers of so many bytes in 512 places, 0 past the count
pub record Listed (width n : ℕ) (s : List ℕ) : Type 0 where
  pub size : length s ≡ most_rows
  pub fits : All (λ (x : ℕ). x < 256 ^ width) s
  pub rest : drop n s ≡ replicate (most_rows - n) 0

pub record InOrder (c : Columns) : Type 0 where
  pub few : c.count ≤ most_rows
  pub positions : Listed 1 c.count c.positions
  pub directions : Listed 1 c.count c.directions
  pub times : Listed 4 c.count c.times
  pub offsets : Listed 4 c.count c.offsets
  pub lengths : Listed 2 c.count c.lengths

-- ---- from the file to the lists

abbrev pub columns_of : List Row → Columns
columns_of rows = record {
  count = length rows;
  positions = list_of (λ r. r.position) rows;
  directions = list_of (λ r. r.direction) rows;
  times = list_of (λ r. r.time) rows;
  offsets = list_of (λ r. r.offset) rows;
  lengths = list_of (λ r. r.length) rows;
}

-- of a bundle that the check accepts; else refused as the check refuses it
abbrev pub columns_made : List ℕ → Answer Columns
columns_made b = within (λ n. columns_of (contents_of b)) (check_of b)

-- ---- from the lists to the file

-- the row that stands at a place of the lists
abbrev pub kept_row : Columns → ℕ → Row
kept_row c i = record {
  position = at c.positions i;
  direction = at c.directions i;
  time = at c.times i;
  offset = at c.offsets i;
  length = at c.lengths i;
}

-- so many rows from a place on
unfoldable pub kept_from : Columns → ℕ → ℕ → List Row
kept_from c i zero = []
kept_from c i (suc n) = kept_row c i ∷ kept_from c (suc i) n

abbrev pub kept_rows : Columns → List Row
kept_rows c = kept_from c 0 c.count

-- count n, 2 bytes, then n contents rows
abbrev pub contents_bytes : Columns → List ℕ
contents_bytes c = bytes_of 2 c.count ++ bytes_of_rows (kept_rows c)
