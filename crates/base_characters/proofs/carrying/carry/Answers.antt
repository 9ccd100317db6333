-- `base_characters::carrying::carry` meets its contract: so many bytes are carried.
use Rattle.base_characters.proofs.Laws.Carrying.{carried_next}
use Rattle.base_characters.proofs.carrying.carry.Goals as goal

pub loop-place-preserved : goal.loop-place-preserved
loop-place-preserved c = carried_next c.loop-place.invariant c.loop-place-test.true c.carrier_of.ensures
