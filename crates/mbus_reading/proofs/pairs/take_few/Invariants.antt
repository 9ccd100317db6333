-- `mbus_reading::pairs::take_few` meets its contract: it leaves at the first character that is not sound.
use Prim.Native.Nat.{◌-◌, ◌/◌}
use lib.ListN.{length}
use Rattle.mbus_reading.proofs.Laws.FewLaws.{Walked}
use Rattle.mbus_reading.proofs.pairs.take_few.Given as goal

abbrev pub invariant-loop-i : goal.invariant-loop-i
invariant-loop-i l = Walked l.bytes l.initial.out l.i l.out

abbrev pub decreases-loop-i : goal.decreases-loop-i
decreases-loop-i l = length l.bytes / 2 - l.i
