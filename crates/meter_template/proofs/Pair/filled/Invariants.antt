-- `Pair::filled` meets its contract: the entries before the place are filled.
use Rattle.meter_template.proofs.Laws.Walks.{Redone}
use Rattle.meter_template.specs.Templates.{filled_entry}
use Rattle.meter_template.proofs.Pair.filled.Given as goal

abbrev pub invariant-loop-e : goal.invariant-loop-e
invariant-loop-e l = Redone (filled_entry l.self) l.initial.e-items l.e-index l.e-items
