-- `bundle_adding::last_time` meets its contract.
use mathlib.Core.Path.{ap, ◌∙◌}
use native.Mathlib.Omega.{arith}
use Rattle.bundle_rows.specs.declared.Row.{Row}
use Rattle.bundle_adding.proofs.Laws.AddLaws.{last_none, last_there}
use Rattle.bundle_adding.proofs.last_time.Goals as goal

pub returns-then-bundle-eq0 : goal.returns-then-bundle-eq0
returns-then-bundle-eq0 c = last_none c.args.bundle.bytes.now c.args.bundle.count c.args.bundle.accepted c.if-bundle-eq0.true

pub overflow_sub-bundle : goal.overflow_sub-bundle
overflow_sub-bundle c = omega arith

pub returns : goal.returns
returns c =
    ap (λ (r : Row). r.time) c.row.ensures ∙ last_there c.args.bundle.bytes.now c.args.bundle.count c.args.bundle.accepted
    (omega (arith, c.if-bundle-eq0.false))
