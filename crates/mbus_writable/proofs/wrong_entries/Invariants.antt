-- `mbus_writable::wrong_entries` meets its contract: what is wrong so far, and with what is left, is what is wrong; the marks say which
-- quantities came.
use Rattle.mbus_writable.proofs.Laws.Walks.{Walked}
use Rattle.mbus_writable.proofs.wrong_entries.Given as goal

abbrev pub invariant-loop-entry : goal.invariant-loop-entry
invariant-loop-entry l = Walked l.entries l.entry-index l.wrong l.seen
