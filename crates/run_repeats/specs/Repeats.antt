-- Rows that repeat a reading: two positions, or two times of one position, with the same meter number and the same entries.
use Rattle.std.specs.Prelude.{ℕ, suc, ◌-◌, Bool, true, false, cond, not, ◌&&◌, List, [], ◌∷◌, ◌++◌, ◌≡◌, length, take, drop}
use Rattle.base_rules.specs.Answers.{Answer, reads, follow, within}
use Rattle.mbus_rules.specs.declared.Outline.{Outline}
use Rattle.mbus_rules.specs.declared.Outline.TheVariants.{Refused, Ack, Asks, Data}
use Rattle.base_lent.specs.Lent.{needs, stored}
use Rattle.base_lent.specs.Same.{same}
use Rattle.std.specs.Prelude.{Result}
use Rattle.base_rules.specs.declared.refusals.Refusal.{Refusal}
use Rattle.base_rules.specs.Shown.{shown}
use Rattle.bundle_check.specs.Bundles.{check_of}
use Rattle.bundle_check.specs.Records.{Recorded, records_of}
use Rattle.run_counting.specs.Counting.{is_sent, row_outline}

-- ---- one row

-- its line reads as data
abbrev pub tells_data : Outline → Bool
tells_data (Refused n) = false
tells_data Ack = false
tells_data (Asks request) = false
tells_data (Data address) = true

-- A row gives a reading: it was heard, at whatever position, and its line reads as data.
abbrev pub gives_reading : Recorded → Bool
gives_reading k = not (is_sent k) && tells_data (row_outline k)

-- 01, "Header": the meter number, 4 bytes behind 68 L L 68 08 A 72. A body has two bytes a character.
abbrev pub number_part : List ℕ → List ℕ
number_part body = take 8 (drop 14 body)

-- 01, "Telegrams": the entries, behind these 7 and the header's 12 up to before CS and 16.
abbrev pub entries_part : List ℕ → List ℕ
entries_part body = take (length body - 4 - 38) (drop 38 body)

-- ---- two rows

-- the same meter number and the same entries; the rest of the header, which a meter changes by itself, has no part
unfoldable pub same_parts : List ℕ → List ℕ → Bool
same_parts s t = same (number_part s) (number_part t) && same (entries_part s) (entries_part t)

unfoldable pub same_reading : Recorded → Recorded → Bool
same_reading j k = gives_reading j && gives_reading k && same_parts j.body k.body

-- ---- all rows

-- 1 + the number of the lowest of some rows that gives the same reading as k, the first of them being number i; 0 where none does
unfoldable pub first_same : ℕ → List Recorded → Recorded → ℕ
first_same i [] k = 0
first_same i (j ∷ js) k = cond (same_reading j k) (suc i) (first_same (suc i) js k)

-- The same for each row, of the rows before it.
unfoldable pub earlier_after : List Recorded → List Recorded → List ℕ
earlier_after before [] = []
earlier_after before (k ∷ ks) = first_same 0 before k ∷ earlier_after (before ++ (k ∷ [])) ks

-- Rows count from 0.
abbrev pub earlier_rows : List Recorded → List ℕ
earlier_rows ks = earlier_after [] ks

-- ---- the bundle

-- 30 to 37 for the bundle, then 21 for fewer places than rows; else a number for each row
unfoldable pub earlier_into : List ℕ → List ℕ → Answer (List ℕ)
earlier_into b rows = follow (check_of b) (λ n. needs n rows (reads (earlier_rows (records_of b))))

-- How many rows there are, and the numbers in the first places and nothing beyond; a refusal leaves them as they were.
pub record TellsEarlier (b before : List ℕ) (r : Result ℕ Refusal) (after : List ℕ) : Type 0 where
  pub count : r ≡ shown (within length (earlier_into b before))
  pub holds : after ≡ stored (λ numbers. numbers) before (earlier_into b before)
