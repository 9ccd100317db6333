-- 02, 2026-10: every lookup answers as before: row, body, and the next row of a position from a given row on.
use Rattle.std.specs.Prelude.{ℕ, suc, ◌+◌, Bool, cond, List, [], ◌∷◌, leb, eqb, length, take, drop}
use Rattle.base_rules.specs.Answers.{Answer, reads, refuse, within, follow}
use Rattle.bundle_rows.specs.declared.Row.{Row}
use Rattle.bundle_check.specs.Bundles.{contents_of, check_of}
use Rattle.bundle_check.specs.declared.rows.BodyPlace.{BodyPlace}
use Rattle.bundle_check.specs.Handing.{place_of}
use Rattle.bundle_columns.specs.Columns.{kept_row}
use Rattle.bundle_columns.specs.Record.{columns_from}

-- how many elements stand in front of the first that passes a test; all of them where none does
unfoldable pub in_front : {A : Type 0} → (A → Bool) → List A → ℕ
in_front test [] = 0
in_front test (x ∷ s) = cond (test x) 0 (suc (in_front test s))

-- the first place from a given one on whose element passes a test; 39 where there is none
abbrev pub first_from : {A : Type 0} → (A → Bool) → List A → ℕ → Answer ℕ
first_from test s from =
    let i = from + in_front test (drop from s) in
    refuse 39 (leb (length s) i) (reads i)

-- it is the position that is looked for
abbrev pub is_position : ℕ → ℕ → Bool
is_position position x = eqb x position

-- a row of it
abbrev pub has_position : ℕ → Row → Bool
has_position position r = is_position position r.position

-- in a bundle, beside `row_at` and `body_at`: the next row of a position from a given row on
unfoldable pub next_at : List ℕ → ℕ → ℕ → Answer ℕ
next_at b position from = follow (check_of b) (λ n. first_from (has_position position) (contents_of b) from)

-- in the lists: a row's five fields; 39 no such row
unfoldable pub row_kept : List ℕ → ℕ → Answer Row
row_kept b i = follow (columns_from b) (λ c. refuse 39 (leb c.count i) (reads (kept_row c i)))

-- where a row's body lies
abbrev pub body_kept : List ℕ → ℕ → Answer BodyPlace
body_kept b i = within place_of (row_kept b i)

-- the next row of a position from a given row on
unfoldable pub next_kept : List ℕ → ℕ → ℕ → Answer ℕ
next_kept b position from = follow (columns_from b) (λ c. first_from (is_position position) (take c.count c.positions) from)
