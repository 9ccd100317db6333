-- `bundle_adding::growing::place_rows` meets its contract: the loop writes each row anew, with the offset of its body.
use Prim.Native.Nat.{◌-◌}
use Rattle.bundle_adding.proofs.Laws.Writing.{Placing}
use Rattle.bundle_adding.proofs.growing.place_rows.Given as goal

abbrev pub invariant-loop-i : goal.invariant-loop-i
invariant-loop-i l = Placing l.initial.buffer l.count l.first l.i l.at l.buffer

abbrev pub decreases-loop-i : goal.decreases-loop-i
decreases-loop-i l = l.count - l.i
