-- `mbus_telegrams::table::structure_of` meets its contract: what is left of the rows has the one.
use mathlib.Core.Path.{refl}
use native.Mathlib.Omega.{arith}
use Rattle.mbus_rules.specs.Quantities.{no_structure, has_structure}
use Rattle.mbus_rules.proofs.Laws.RowLaws.{row_here, row_next, row_past}
use borrow.Author.Tests.{eq-eqb, ne_eqb}
use Rattle.mbus_telegrams.proofs.table.structure_of.Goals as goal

pub loop-i-init : goal.loop-i-init
loop-i-init c = refl

pub returns-then-same : goal.returns-then-same
returns-then-same c =
    row_here (has_structure c.args.structure) no_structure c.structures-rows.ensures c.loop-i.invariant _ (omega arith) (eq-eqb _ _ c.if-same.true)

pub loop-i-preserved : goal.loop-i-preserved
loop-i-preserved c =
    row_next (has_structure c.args.structure) no_structure c.structures-rows.ensures c.loop-i.invariant _ (omega arith) (ne_eqb _ _ c.if-same.false)

pub returns : goal.returns
returns c =
    row_past (has_structure c.args.structure) no_structure c.structures-rows.ensures {i = c.loop-i.i} c.loop-i.invariant (omega arith)
