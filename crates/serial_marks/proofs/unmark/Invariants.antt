-- `serial_marks::unmark` meets its contract: the loop goes along the bytes, a whole character at a time.
use Prim.Native.Nat.{◌-◌}
use lib.ListN.{length}
use Rattle.serial_marks.proofs.Laws.Along.{Along}
use Rattle.serial_marks.proofs.unmark.Given as goal

abbrev pub invariant-loop-made : goal.invariant-loop-made
invariant-loop-made l = Along l.bytes l.initial.characters l.used l.made l.characters

abbrev pub decreases-loop-made : goal.decreases-loop-made
decreases-loop-made l = length l.initial.characters - l.made
