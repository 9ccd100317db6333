-- `mbus_telegrams::table::row_of` meets its contract: what is left of the rows has the one.
use Prim.Native.Nat.{◌-◌}
use mathlib.Core.Path.{◌≡◌}
use lib.ListN.{length, drop}
use Rattle.mbus_rules.specs.Quantities.{table, no_row, has_unit, first_with}
use Rattle.mbus_telegrams.proofs.table.row_of.Given as goal

abbrev pub invariant-loop-i : goal.invariant-loop-i
invariant-loop-i l = first_with no_row (has_unit l.unit) (drop l.i l.rows) ≡ first_with no_row (has_unit l.unit) l.rows

abbrev pub decreases-loop-i : goal.decreases-loop-i
decreases-loop-i l = length table - l.i
