-- `base_characters::sum_of` meets its contract: what was summed so far and the rest make the sum of the bytes, modulo 256.
use Rattle.base_characters.proofs.Laws.SumLaws.{Summed}
use Rattle.base_characters.proofs.sum_of.Given as goal

abbrev pub invariant-loop-b : goal.invariant-loop-b
invariant-loop-b l = Summed l.bytes l.b-index l.sum
