-- `bundle_check::rows::body` meets its contract: every body lies inside its bundle.
use Prim.Native.Nat.{◌+◌, ◌≤◌}
use mathlib.Core.Path.{sym, ◌∙◌}
use native.Mathlib.Omega.{arith}
use lib.ListN.{length}
use Rattle.base_rules.proofs.Laws.AnswerLaws.{shown_ok}
use Rattle.bundle_check.specs.Handing.{body_at}
use Rattle.bundle_check.proofs.Laws.HandingLaws.{place_inside}
use Rattle.bundle_check.proofs.rows.body.Goals.{In-Ok}
use Rattle.bundle_check.proofs.rows.body.Goals as goal

inside : (c : In-Ok) → c.in-Ok.place.offset + c.in-Ok.place.size ≤ length c.args.bundle.now
inside c =
    let b = c.args.bundle.now in
    place_inside b c.args.i c.in-Ok.place (shown_ok (body_at b c.args.i) c.in-Ok.place (sym c.body_at.ensures ∙ c.in-Ok.is))

pub overflow_add-result : goal.overflow_add-result
overflow_add-result c = omega (arith, inside (goal.at.overflow_add-result c).In-Ok)

pub slice_bounds-result-end : goal.slice_bounds-result-end
slice_bounds-result-end c = omega (arith, inside (goal.at.slice_bounds-result-end c).In-Ok)
