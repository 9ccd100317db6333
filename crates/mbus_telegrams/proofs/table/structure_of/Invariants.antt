-- `mbus_telegrams::table::structure_of` meets its contract: what is left of the rows has the one.
use Prim.Native.Nat.{◌-◌}
use mathlib.Core.Path.{◌≡◌}
use lib.ListN.{length, drop}
use Rattle.mbus_rules.specs.Quantities.{structures, no_structure, has_structure, first_with}
use Rattle.mbus_telegrams.proofs.table.structure_of.Given as goal

abbrev pub invariant-loop-i : goal.invariant-loop-i
invariant-loop-i l = first_with no_structure (has_structure l.structure) (drop l.i l.rows) ≡ first_with no_structure (has_structure l.structure) l.rows

abbrev pub decreases-loop-i : goal.decreases-loop-i
decreases-loop-i l = length structures - l.i
