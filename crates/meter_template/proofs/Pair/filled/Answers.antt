-- `Pair::filled` meets its contract.
use borrow.Author.Rules.{rules}
use lib.ListN.{length}
use mathlib.Core.Path.{◌≡◌}
use native.Mathlib.Omega.{arith}
use Rattle.meter_template.proofs.Laws.Walks.{redone_none, redone_next, redone_all}
use Rattle.meter_template.proofs.Pair.filled.Goals as goal

pub loop-e-init : goal.loop-e-init
loop-e-init c = redone_none

pub loop-e-preserved : goal.loop-e-preserved
loop-e-preserved c =
    let seven : length c.args.entries ≡ 7 = search rules in
    rw c.filled_entry.ensures (redone_next _ c.loop-e.invariant (omega (arith, c.loop-e-test.true)))

pub returns : goal.returns
returns c =
    let seven : length c.args.entries ≡ 7 = search rules in
    redone_all c.loop-e.invariant (omega (arith, c.loop-e-test.false))
