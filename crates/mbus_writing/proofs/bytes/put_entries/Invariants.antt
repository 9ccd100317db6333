-- `mbus_writing::bytes::put_entries` meets its contract: the entries so far lie one after the other.
use Rattle.mbus_writing.proofs.Laws.Laying.{Laying}
use Rattle.mbus_writing.proofs.bytes.put_entries.Given as goal

abbrev pub invariant-loop-entry : goal.invariant-loop-entry
invariant-loop-entry l = Laying l.fn.entries l.fn.count l.initial.bytes l.entry-index l.at l.bytes
