-- What the functions on the lists answer, and what they leave in memory that was lent to them.
use Rattle.std.specs.Prelude.{ℕ, List, Result, ◌≡◌}
use Rattle.base_rules.specs.Answers.{Answer, reads, within, follow}
use Rattle.base_rules.specs.declared.refusals.Refusal.{Refusal}
use Rattle.base_rules.specs.Shown.{shown}
use Rattle.base_lent.specs.Lent.{stored, needs}
use Rattle.bundle_rows.specs.Rows.{first_offset}
use Rattle.bundle_columns.specs.Columns.{Columns, columns_made}
use Rattle.bundle_columns.specs.Record.{columns_size, columns_from}

-- the lists of a bundle, into the places for their record: 21 where there are too few, before all others
abbrev pub columns_into : List ℕ → List ℕ → Answer Columns
columns_into b out = needs columns_size out (columns_made b)

-- the contents of the lists, into the places for their bytes: 21 where there are too few, behind 101
abbrev pub contents_into : List ℕ → List ℕ → Answer Columns
contents_into b out = follow (columns_from b) (λ c. needs (first_offset c.count) out (reads c))

-- the number of rows in them
abbrev pub count_kept : Answer Columns → Answer ℕ
count_kept a = within (λ c. c.count) a

-- The number of rows, or the refusal; and what is written for the lists in the first places, or on a refusal all as it was.
pub record Turns (written : Columns → List ℕ) (a : Answer Columns) (before : List ℕ) (r : Result ℕ Refusal) (after : List ℕ) : Type 0 where
  pub answer : r ≡ shown (count_kept a)
  pub left : after ≡ stored written before a
