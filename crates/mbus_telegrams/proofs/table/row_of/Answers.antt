-- `mbus_telegrams::table::row_of` meets its contract: what is left of the rows has the one.
use mathlib.Core.Path.{refl}
use native.Mathlib.Omega.{arith}
use Rattle.mbus_rules.specs.Quantities.{no_row, has_unit}
use Rattle.mbus_rules.proofs.Laws.RowLaws.{row_here, row_next, row_past}
use Rattle.mbus_telegrams.proofs.table.row_of.Goals as goal

pub loop-i-init : goal.loop-i-init
loop-i-init c = refl

pub returns-then-inside : goal.returns-then-inside
returns-then-inside c =
    row_here (has_unit c.args.unit) no_row c.rows-rows.ensures c.loop-i.invariant _ (omega arith) c.if-inside.true

pub loop-i-preserved : goal.loop-i-preserved
loop-i-preserved c =
    row_next (has_unit c.args.unit) no_row c.rows-rows.ensures c.loop-i.invariant _ (omega arith) c.if-inside.false

pub returns : goal.returns
returns c =
    row_past (has_unit c.args.unit) no_row c.rows-rows.ensures {i = c.loop-i.i} c.loop-i.invariant (omega arith)
