-- `mbus_search::find_line` meets its contract: no line begins at a place before, and at a place only one length can be.
use Rattle.std.proofs.Common.{◌≡◌, ◌-◌}
use lib.ListN
use Rattle.mbus_search.proofs.Laws.Walks.{Searched, Walked}
use Rattle.mbus_search.proofs.find_line.Given as goal

abbrev pub invariant-loop-i : goal.invariant-loop-i
invariant-loop-i l = Walked l.rest l.length l.i l.found l.bytes l.sum

abbrev pub decreases-loop-i : goal.decreases-loop-i
decreases-loop-i l = l.length - l.i

abbrev pub invariant-places : goal.invariant-places
invariant-places l = Searched l.capture l.place l.found × (ListN.length l.bytes ≡ 261)
