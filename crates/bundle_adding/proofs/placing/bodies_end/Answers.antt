-- `bundle_adding::placing::bodies_end` meets its contract: the end of the bundle, or the offset of the row there.
use mathlib.Core.Path.{ap, ◌∙◌}
use native.Mathlib.Omega.{arith}
use Rattle.bundle_rows.specs.declared.Row.{Row}
use Rattle.bundle_adding.proofs.Laws.Opened.{end_row, end_whole}
use Rattle.bundle_adding.proofs.placing.bodies_end.Goals as goal

pub returns-then-place-bundle : goal.returns-then-place-bundle
returns-then-place-bundle c =
    end_whole c.args.bundle.bytes.now c.args.bundle.count c.args.place c.args.bundle.accepted c.if-place-bundle.true

pub returns : goal.returns
returns c =
    ap (λ (r : Row). r.offset) c.row.ensures
    ∙ end_row c.args.bundle.bytes.now c.args.bundle.count c.args.place c.args.bundle.accepted
    (omega (arith, c.requires, c.if-place-bundle.false))
