-- `base_characters::sum_of` meets its contract: what was summed so far and the rest make the sum of the bytes, modulo 256.
use Rattle.base_characters.proofs.Laws.SumLaws.{summed_next, summed_all}
use Rattle.base_characters.proofs.sum_of.Goals as goal

pub loop-b-preserved : goal.loop-b-preserved
loop-b-preserved c = summed_next c.loop-b.invariant c.loop-b-test.true

pub returns : goal.returns
returns c = summed_all c.loop-b.invariant c.loop-b-test.false
