-- `bundle_sweep::drawing::goes_at` meets its contract: the body of the row is that stretch of the bundle.
use Prim.Native.Nat.{ℕ, ◌+◌, ◌≤◌}
use mathlib.Core.List.{List}
use mathlib.Core.Path.{ap, ◌∙◌}
use native.Mathlib.Omega.{arith}
use lib.ListN.{length}
use Rattle.bundle_rows.specs.declared.Row.{Row}
use Rattle.bundle_rows.proofs.Laws.CharacterLaws.{body_whole}
use Rattle.bundle_sweep.specs.Sweeping.{goes}
use Rattle.bundle_sweep.specs.Writing.{row_goes}
use Rattle.bundle_sweep.proofs.drawing.goes_at.Goals as goal

pub slice_bounds-is_gone-end : goal.slice_bounds-is_gone-end
slice_bounds-is_gone-end c =
    let r = c.unchecked_row-row.result in
    let h : r.offset + r.length ≤ length c.args.bundle.now = rw c.unchecked_row-row.ensures c.requires in
    omega arith

pub returns : goal.returns
returns c =
    let a = c.args in
    let r = c.unchecked_row-row.result in
    c.is_gone.ensures ∙ ap (λ (l : List ℕ). goes a.position r.position l) (body_whole a.bundle.now r)
    ∙ ap (λ (q : Row). row_goes a.position a.bundle.now q) c.unchecked_row-row.ensures
