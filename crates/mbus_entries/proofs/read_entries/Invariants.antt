-- `mbus_entries::read_entries` meets its contract: each turn walks over one entry.
use Prim.Native.Nat.{◌-◌}
use lib.ListN.{length}
use Rattle.mbus_entries.proofs.Laws.WalkLaws.{Walked}
use Rattle.mbus_entries.proofs.read_entries.Given as goal

abbrev pub invariant-loop-at : goal.invariant-loop-at
invariant-loop-at l = Walked l.rest l.at l.count l.marks l.entries

abbrev pub decreases-loop-at : goal.decreases-loop-at
decreases-loop-at l = length l.rest - l.at
