-- `text_filling::digits_of` meets its contract: the loop spells the number from its last digit on.
use Rattle.text_filling.proofs.Laws.DecimalLaws.{Spelled}
use Rattle.text_filling.proofs.digits_of.Given as goal

abbrev pub invariant-loop-rest : goal.invariant-loop-rest
invariant-loop-rest l = Spelled l.n l.start l.rest l.bytes

abbrev pub decreases-loop-rest : goal.decreases-loop-rest
decreases-loop-rest l = l.rest
