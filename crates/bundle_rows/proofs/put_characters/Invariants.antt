-- `bundle_rows::put_characters` meets its contract: the loop copies each character.
use Prim.Native.Nat.{◌-◌}
use Rattle.bundle_rows.proofs.Laws.CharacterLaws.{Putting}
use Rattle.bundle_rows.proofs.put_characters.Given as goal

abbrev pub invariant-loop-i : goal.invariant-loop-i
invariant-loop-i l = Putting l.bytes l.initial.line l.count l.i l.line

abbrev pub decreases-loop-i : goal.decreases-loop-i
decreases-loop-i l = l.count - l.i
