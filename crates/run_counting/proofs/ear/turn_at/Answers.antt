-- `run_counting::ear::turn_at` meets its contract: the body of the row is that stretch of the bundle.
use Prim.Native.Nat.{ℕ, ◌+◌, ◌≤◌}
use mathlib.Core.List.{List}
use mathlib.Core.Path.{ap, ◌∙◌}
use native.Mathlib.Omega.{arith}
use Rattle.std.specs.Prelude.{Option}
use lib.ListN.{length}
use Rattle.bundle_rows.specs.declared.Row.{Row}
use Rattle.bundle_rows.specs.Rows.{body_in}
use Rattle.bundle_rows.proofs.Laws.CharacterLaws.{body_whole}
use Rattle.run_counting.specs.declared.ear.Open.{Open}
use Rattle.run_counting.specs.Ears.{row_with, row_in, passed_by}
use Rattle.run_counting.proofs.ear.turn_at.Goals as goal

pub slice_bounds-passed_by-end : goal.slice_bounds-passed_by-end
slice_bounds-passed_by-end c =
    let r = c.unchecked_row-row.result in
    let h : r.offset + r.length ≤ length c.args.bundle.now = rw c.unchecked_row-row.ensures c.requires in
    omega arith

pub returns : goal.returns
returns c =
    let a = c.args in
    let r = c.unchecked_row-row.result in
    c.passed_by.ensures
    ∙ ap (λ (l : List ℕ). passed_by a.position c.held.result (row_with r l)) (body_whole a.bundle.now r)
    ∙ ap (λ (q : Row). passed_by a.position c.held.result (row_with q (body_in a.bundle.now q))) c.unchecked_row-row.ensures
    ∙ ap (λ (e : Option Open). passed_by a.position e (row_in a.bundle.now a.i)) c.held.ensures
