-- `cjt_energy::count_for` meets its contract.
use Rattle.cjt_energy.proofs.Laws.Energies.{count_found}
use borrow.Author.Tests.{eq-eqb, ne_eqb}
use Rattle.cjt_energy.proofs.count_for.Goals as goal

pub returns-then-small : goal.returns-then-small
returns-then-small c =
    rw (eq-eqb _ _ c.if-small.true) at (count_found c.args.count c.args.code c.requires)

pub returns-then-large : goal.returns-then-large
returns-then-large c =
    rw ((ne_eqb _ _ c.if-small.false), c.if-large.true) at (count_found c.args.count c.args.code c.requires)

pub returns : goal.returns
returns c =
    rw ((ne_eqb _ _ c.if-small.false), c.if-large.false) at (count_found c.args.count c.args.code c.requires)
