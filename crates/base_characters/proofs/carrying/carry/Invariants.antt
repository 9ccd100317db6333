-- `base_characters::carrying::carry` meets its contract: so many bytes are carried.
use Rattle.base_characters.proofs.Laws.Carrying.{CarriedSoFar}
use Rattle.base_characters.proofs.carrying.carry.Given as goal

abbrev pub invariant-loop-place : goal.invariant-loop-place
invariant-loop-place l = CarriedSoFar l.bytes l.initial.out l.place l.out
