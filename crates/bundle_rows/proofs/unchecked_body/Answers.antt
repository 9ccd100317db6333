-- `bundle_rows::unchecked_body` meets its contract: each way out by how much of the body the bundle has.
use mathlib.Core.Path.{ap, ◌∙◌}
use Rattle.bundle_rows.specs.Rows.{body_in}
use Rattle.bundle_rows.proofs.Laws.CharacterLaws.{body_past, body_cut, body_whole}
use Rattle.bundle_rows.proofs.unchecked_body.Goals as goal

pub returns-then-bundle-at : goal.returns-then-bundle-at
returns-then-bundle-at c =
    body_past c.args.bundle.now c.unchecked_row-row.result c.if-bundle-at.true ∙ ap (body_in c.args.bundle.now)
    c.unchecked_row-row.ensures

pub returns-then-bundle-at-2 : goal.returns-then-bundle-at-2
returns-then-bundle-at-2 c =
    body_cut c.args.bundle.now c.unchecked_row-row.result c.if-bundle-at-2.true ∙ ap (body_in c.args.bundle.now)
    c.unchecked_row-row.ensures

pub returns : goal.returns
returns c =
    body_whole c.args.bundle.now c.unchecked_row-row.result ∙ ap (body_in c.args.bundle.now) c.unchecked_row-row.ensures
