-- `bundle_sweep::drawing::is_gone` meets its contract.
use Rattle.bundle_sweep.specs.Sweeping.{goes}
use Rattle.bundle_sweep.proofs.drawing.is_gone.Goals as goal

pub returns : goal.returns
unfolding goes
returns c = rw c.is_wake-wake.ensures
