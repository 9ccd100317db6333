-- 01, "The run bundle": a row of a bundle that is accepted, and where its body lies.
use Rattle.std.specs.Prelude.{ℕ, List, leb, get_or}
use Rattle.base_rules.specs.Answers.{Answer, reads, refuse, within, follow}
use Rattle.bundle_rows.specs.declared.Row.{Row}
use Rattle.bundle_rows.specs.Rows.{blank_row}
use Rattle.bundle_check.specs.declared.rows.BodyPlace.{BodyPlace}
use Rattle.bundle_check.specs.Bundles.{contents_of, check_of}

-- One row's five fields; 39 no such row. Rows count from 0.
unfoldable pub row_at : List ℕ → ℕ → Answer Row
row_at b i = follow (check_of b) (λ n. refuse 39 (leb n i) (reads (get_or (contents_of b) i blank_row)))

-- where a row's body lies
abbrev pub place_of : Row → BodyPlace
place_of r = record { offset = r.offset; size = r.length }

abbrev pub body_at : List ℕ → ℕ → Answer BodyPlace
body_at b i = within place_of (row_at b i)
