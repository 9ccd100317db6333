-- `mbus_telegrams::table::any_missing` meets its contract: what is missing so far, or by the rows that are left.
use Prim.Native.Nat.{◌-◌}
use mathlib.Core.Bool.{false, not, ◌&&◌}
use lib.ListN.{length, get_or}
use Rattle.mbus_rules.specs.declared.UnitRow.{UnitRow}
use Rattle.mbus_rules.specs.Quantities.{table}
use Rattle.base_rules.proofs.Laws.ListLaws.{Gathered}
use Rattle.mbus_telegrams.proofs.table.any_missing.Given as goal

abbrev pub invariant-loop-i : goal.invariant-loop-i
invariant-loop-i l = Gathered (λ (r : UnitRow). r.required && not (get_or l.marks r.quantity false)) l.rows l.i l.missing

abbrev pub decreases-loop-i : goal.decreases-loop-i
decreases-loop-i l = length table - l.i
