-- A row as a record for C: the fields of struct skarrowith_row, numbers low byte first.
use Rattle.std.specs.Prelude.{ℕ, List, [], ◌∷◌, ◌++◌}
use Rattle.base_rules.specs.Answers.{Answer, reads, refusal, follow}
use Rattle.base_numbers.specs.Numbers.{bytes_of}
use Rattle.base_lent.specs.Lent.{done, needs, Leaves}
use Rattle.bundle_rows.specs.declared.Row.{Row}
use Rattle.std.specs.Prelude.{Result, Ok, Err}
use Rattle.base_rules.specs.declared.refusals.Refusal.{Refusal}
use Rattle.bundle_check.specs.Handing.{row_at}
use Rattle.bundle_columns.specs.Lookups.{row_kept}
use Rattle.bundle_columns.specs.Record.{columns_from}

-- time 4 bytes; offset 4; body length 2; position; direction
abbrev pub row_record : Row → List ℕ
row_record r = bytes_of 4 r.time ++ (bytes_of 4 r.offset ++ (bytes_of 2 r.length ++ (r.position ∷ (r.direction ∷ []))))

-- what was found
abbrev pub row_found : Result Row Refusal → Answer Row
row_found (Ok r) = reads r
row_found (Err e) = refusal e.0

-- 21 where there is no room for the record, before all others
abbrev pub row_into : List ℕ → ℕ → List ℕ → Answer Row
row_into b i out = needs 12 out (row_at b i)

-- the same of the lists of 2026-10, behind 101
abbrev pub kept_into : List ℕ → ℕ → List ℕ → Answer Row
kept_into b i out = follow (columns_from b) (λ c. needs 12 out (row_kept b i))

-- 0, and the row's record in the places lent for it; or 256 plus the refusal number, and they are as they were.
abbrev pub GivesRow : Answer Row → List ℕ → ℕ → List ℕ → Type 0
GivesRow a before r after = Leaves done row_record a before after r
