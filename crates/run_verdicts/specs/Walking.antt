-- What the walk along rows is told of them, and what is tried of rows in columns.
use Rattle.std.specs.Prelude.{ℕ, zero, suc, ◌+◌, ◌≤◌, ◌<◌, List, [], ◌∷◌, ◌++◌, ◌≡◌, length}
use Rattle.base_rules.specs.Answers.{Answer, reads, refusal}
use Rattle.base_rules.specs.Lists.{any}
use Rattle.bundle_rows.specs.declared.Row.{Row}
use Rattle.bundle_rows.specs.Rows.{most_rows, blank_row, body_in}
use Rattle.bundle_check.specs.Records.{Recorded}
use Rattle.bundle_check.specs.RowRules.{wrong_rows}
use Rattle.bundle_columns.specs.Record.{columns_size, columns_in, columns_from}
use Rattle.bundle_columns.specs.Lookups.{row_kept}
use Rattle.run_counting.specs.Ears.{row_with}
use Rattle.run_verdicts.specs.declared.kept.Faults.{Faults}
use Rattle.run_verdicts.specs.Answering.{body_past}

-- the row that was asked for; blank where there is none
abbrev pub or_blank : Answer Row → Row
or_blank (reads r) = r
or_blank (refusal n) = blank_row

-- row i of columns
abbrev pub column_row : List ℕ → ℕ → Row
column_row lists i = or_blank (row_kept lists i)

-- row i of rows that are walked along, with its body
abbrev pub record_from : (ℕ → Row) → List ℕ → ℕ → Recorded
record_from rows b i = row_with (rows i) (body_in b (rows i))

-- the first so many values of a function
unfoldable pub firsts : {A : Type 0} → (ℕ → A) → ℕ → List A
firsts f zero = []
firsts f (suc n) = firsts f n ++ (f n ∷ [])

abbrev pub records_from : (ℕ → Row) → List ℕ → ℕ → List Recorded
records_from rows b n = firsts (record_from rows b) n

-- What the walk asks: no more rows than places, each of a position up to 48, with its body inside the bundle.
pub record Walkable (rows : ℕ → Row) (b : List ℕ) (n : ℕ) : Type 0 where
  pub few : n ≤ most_rows
  pub position : (i : ℕ) → i < n → (rows i).position ≤ 48
  pub inside : (i : ℕ) → i < n → (rows i).offset + (rows i).length ≤ length b

-- The columns are those of a record, with so many rows.
pub record Tried (lists : List ℕ) (n : ℕ) : Type 0 where
  pub size : length lists ≡ columns_size
  pub few : n ≤ most_rows
  pub count : n ≡ (columns_in lists).count
  pub from : columns_from lists ≡ reads (columns_in lists)

-- 34, and 35 of bodies that may lie anywhere in the bundle, over all rows
abbrev pub faults_of : ℕ → List Row → Faults
faults_of end rows = record { field = wrong_rows 0 rows; place = any (body_past end) rows }
