-- `run_repeats::reading::mark_at` meets its contract: the body of the row is that stretch of the bundle.
use Prim.Native.Nat.{ℕ, ◌+◌, ◌≤◌}
use mathlib.Core.List.{List}
use mathlib.Core.Path.{ap, ◌∙◌}
use native.Mathlib.Omega.{arith}
use lib.ListN.{length}
use Rattle.bundle_rows.specs.declared.Row.{Row}
use Rattle.bundle_rows.specs.Rows.{body_in}
use Rattle.bundle_rows.proofs.Laws.CharacterLaws.{body_whole}
use Rattle.run_counting.specs.Ears.{row_with}
use Rattle.run_repeats.specs.Marks.{row_mark}
use Rattle.run_repeats.proofs.reading.mark_at.Goals as goal

pub slice_bounds-mark_of-end : goal.slice_bounds-mark_of-end
slice_bounds-mark_of-end c =
    let r = c.unchecked_row-row.result in
    let h : r.offset + r.length ≤ length c.args.bundle.now = rw c.unchecked_row-row.ensures c.requires in
    omega arith

pub returns : goal.returns
returns c =
    let a = c.args in
    let r = c.unchecked_row-row.result in
    c.mark_of.ensures
    ∙ ap (λ (l : List ℕ). row_mark (row_with r l)) (body_whole a.bundle.now r)
    ∙ ap (λ (q : Row). row_mark (row_with q (body_in a.bundle.now q))) c.unchecked_row-row.ensures
