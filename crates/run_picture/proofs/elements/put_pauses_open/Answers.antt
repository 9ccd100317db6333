-- `run_picture::elements::put_pauses_open` meets its contract.
use Rattle.run_picture.proofs.elements.put_pauses_open.Goals as goal

pub returns : goal.returns
returns c =
    rw (← c.saturating_sub-high.ensures) c.fill.ensures
