-- `mbus_writable::any_used` meets its contract: what was found so far, or is in the rest, is what there is.
use Rattle.mbus_rules.specs.Writing.{used_entry}
use Rattle.base_rules.proofs.Laws.ListLaws.{Gathered}
use Rattle.mbus_writable.proofs.any_used.Given as goal

abbrev pub invariant-loop-entry : goal.invariant-loop-entry
invariant-loop-entry l = Gathered used_entry l.entries l.entry-index l.found
