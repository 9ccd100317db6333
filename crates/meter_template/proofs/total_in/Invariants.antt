-- `total_in` meets its contract: what is left has the whole total.
use Rattle.meter_template.specs.Templates.{total_in}
use lib.ListN.{drop}
use mathlib.Core.Path.{◌≡◌}
use Rattle.meter_template.proofs.total_in.Given as goal

abbrev pub invariant-loop-e : goal.invariant-loop-e
invariant-loop-e l = total_in l.quantity (drop l.e-index l.e-items) ≡ total_in l.quantity l.e-items
