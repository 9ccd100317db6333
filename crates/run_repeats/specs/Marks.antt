-- What the look for repeated readings goes by: a mark for each row of an accepted bundle.
use Rattle.std.specs.Prelude.{ℕ, ◌+◌, ◌≤◌, ◌<◌, cond, List, ◌≡◌, length, get_or}
use Rattle.base_rules.specs.Answers.{reads}
use Rattle.base_rules.specs.Lists.{total}
use Rattle.bundle_rows.specs.Rows.{most_rows, unchecked_row}
use Rattle.bundle_check.specs.Bundles.{check_of}
use Rattle.bundle_check.specs.Records.{Recorded}
use Rattle.run_counting.specs.Ears.{row_in}
use Rattle.run_repeats.specs.Repeats.{gives_reading, entries_part}

-- A row's mark: 0 where it gives no reading, else 1 + the sum of its entries' bytes. Rows with the same entries have the same mark.
unfoldable pub row_mark : Recorded → ℕ
row_mark k = cond (gives_reading k) (1 + total (entries_part k.body)) 0

-- Each of the rows has its mark.
pub record Marked (b : List ℕ) (n : ℕ) (marks : List ℕ) : Type 0 where
  pub accepted : check_of b ≡ reads n
  pub places : length marks ≡ most_rows
  pub so : (i : ℕ) → i < n → get_or marks i 0 ≡ row_mark (row_in b i)

-- The body of row i lies in the bundle and is long enough for a line of data: 21 characters around the entries.
pub record DataAt (b : List ℕ) (i : ℕ) : Type 0 where
  pub inside : (unchecked_row b i).offset + (unchecked_row b i).length ≤ length b
  pub long : 42 ≤ (unchecked_row b i).length
