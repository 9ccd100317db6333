-- `mbus_telegrams::table::any_missing` meets its contract: what is missing so far, or by the rows that are left.
use mathlib.Core.Path.{◌≡◌, refl, ap, ◌∙◌}
use native.Mathlib.Omega.{arith}
use borrow.Author.Tests.{ltb-true}
use lib.Dec.{ltb}
use lib.ListN.{length}
use Rattle.mbus_rules.specs.declared.UnitRow.{UnitRow}
use Rattle.base_rules.specs.Lists.{any}
use Rattle.mbus_rules.specs.Quantities.{table}
use Rattle.base_rules.proofs.Laws.ListLaws.{gathered_none, gathered_next, gathered_all}
use Rattle.mbus_rules.proofs.Laws.RowLaws.{all_at}
use Rattle.mbus_telegrams.proofs.table.any_missing.Goals as goal

pub loop-i-init : goal.loop-i-init
loop-i-init c = gathered_none

pub bounds-marks-quantity : goal.bounds-marks-quantity
bounds-marks-quantity c =
    let made = c.rows-rows in
    rw made.ensures (ltb-true _ 8 (all_at (λ (r : UnitRow). ltb r.quantity 8) table c.loop-i.i _ refl (omega arith)))

pub loop-i-preserved : goal.loop-i-preserved
loop-i-preserved c =
    let made = c.rows-rows in
    let known : length made.result ≡ length table = ap length made.ensures in
    gathered_next _ c.loop-i.invariant (omega arith)

pub returns : goal.returns
returns c =
    let made = c.rows-rows in
    let known : length made.result ≡ length table = ap length made.ensures in
    gathered_all c.loop-i.invariant (omega arith) ∙ ap (any _) made.ensures
