-- The columns of an accepted bundle have the verdicts of the bundle.
use Prim.Native.Nat.{ℕ, suc, ◌+◌, ◌<◌}
use mathlib.Core.Bool.{false}
use mathlib.Core.List.{List, [], ◌∷◌, map}
use mathlib.Core.Path.{◌≡◌, refl, sym, ap, ◌∙◌}
use native.Mathlib.Omega.{arith}
use borrow.Author.Tests.{le-ltb}
use lib.ListN.{length, get_or}
use Rattle.base_rules.specs.Answers.{reads}
use Rattle.base_rules.specs.Lists.{any}
use Rattle.base_rules.proofs.Laws.ByteLaws.{EachByte}
use Rattle.bundle_rows.specs.declared.Row.{Row}
use Rattle.bundle_rows.specs.Rows.{blank_row, body_in}
use Rattle.bundle_check.specs.Bundles.{check_of, contents_of, count_of}
use Rattle.bundle_check.specs.Records.{Recorded}
use Rattle.bundle_check.specs.RowRules.{wrong_rows}
use Rattle.bundle_check.proofs.Laws.Accepted.{accepted_sound, body_inside}
use Rattle.bundle_check.proofs.Laws.BodyLaws.{count_rows}
use Rattle.bundle_check.proofs.Laws.HoldingLaws.{records_held}
use Rattle.bundle_columns.specs.Columns.{columns_of, kept_rows}
use Rattle.bundle_columns.specs.Record.{columns_bytes, columns_from}
use Rattle.bundle_columns.proofs.Laws.Whole.{columns_in_order, record_back, kept_whole}
use Rattle.run_counting.specs.Ears.{row_with}
use Rattle.run_verdicts.specs.Verdicts.{verdicts_of}
use Rattle.run_verdicts.specs.Answering.{verdicts_in, body_past, verdicts_kept}

-- no element passes a test that none at a place passes
none_any : (end : ℕ) (rows : List Row) → ((i : ℕ) → i < length rows → body_past end (get_or rows i blank_row) ≡ false) → any (body_past end) rows ≡ false
unfolding any
none_any end [] h = refl
none_any end (r ∷ rows) h = rw (h 0 (omega arith), none_any end rows (λ i l. h (suc i) (omega arith)))

pub kept_as_before : (b : List ℕ) (n : ℕ) → EachByte b → check_of b ≡ reads n → verdicts_kept (columns_bytes (columns_of (contents_of b))) b ≡ verdicts_in b
unfolding verdicts_kept verdicts_in
kept_as_before b n bytes e =
    let rows : List Row = contents_of b in
    let s = accepted_sound b n e in
    let there : columns_from (columns_bytes (columns_of rows)) ≡ reads (columns_of rows) =
    record_back (columns_of rows) (columns_in_order b (count_of b) bytes s.0.few) in
    let fields : wrong_rows 0 (kept_rows (columns_of rows)) ≡ false = ap (wrong_rows 0) (kept_whole rows) ∙ s.0.fields in
    let places : any (body_past (length b)) (kept_rows (columns_of rows)) ≡ false =
    ap (any (body_past (length b))) (kept_whole rows)
    ∙ none_any (length b) rows (λ i h. le-ltb (length b) ((get_or rows i blank_row).offset + (get_or rows i blank_row).length)
    (body_inside b i s.0 (omega (arith, count_rows b n e, s.1)))) in
    rw (there, e, fields, places)
    (ap (λ (l : List Row). reads (verdicts_of (map (λ (r : Row). row_with r (body_in b r)) l))) (kept_whole rows)
    ∙ ap (λ (l : List Recorded). reads (verdicts_of l)) (sym (records_held b s.0)))
