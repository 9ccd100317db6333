-- The verdicts of a bundle, and of contents kept in columns (02, 2026-10) with the bundle that their bodies lie in.
use Rattle.std.specs.Prelude.{ℕ, ◌+◌, Bool, List, map, ltb, length}
use Rattle.base_rules.specs.Answers.{Answer, reads, refuse, within, follow}
use Rattle.base_rules.specs.Lists.{any}
use Rattle.bundle_rows.specs.declared.Row.{Row}
use Rattle.bundle_rows.specs.Rows.{body_in}
use Rattle.bundle_check.specs.Bundles.{check_of}
use Rattle.bundle_check.specs.Records.{Recorded, records_of}
use Rattle.bundle_check.specs.RowRules.{wrong_rows}
use Rattle.bundle_columns.specs.Columns.{Columns, kept_rows}
use Rattle.bundle_columns.specs.Record.{columns_from}
use Rattle.run_counting.specs.Ears.{row_with}
use Rattle.run_verdicts.specs.declared.Verdict.{Verdict}
use Rattle.run_verdicts.specs.Verdicts.{verdicts_of}

-- 30 to 37 for the bundle; else a verdict for each of its rows
unfoldable pub verdicts_in : List ℕ → Answer (List Verdict)
verdicts_in b = within (λ n. verdicts_of (records_of b)) (check_of b)

-- 35: a body past the end
abbrev pub body_past : ℕ → Row → Bool
body_past end r = ltb end (r.offset + r.length)

-- the rows of the lists with their bodies
abbrev pub records_kept : Columns → List ℕ → List Recorded
records_kept c b = map (λ r. row_with r (body_in b r)) (kept_rows c)

-- 101 for the lists, then 34 and 35 for their rows; bodies may lie anywhere in the bundle
unfoldable pub verdicts_kept : List ℕ → List ℕ → Answer (List Verdict)
verdicts_kept lists b =
    follow (columns_from lists)
    (λ c.
    refuse 34 (wrong_rows 0 (kept_rows c))
    (refuse 35 (any (body_past (length b)) (kept_rows c))
    (reads (verdicts_of (records_kept c b)))))
