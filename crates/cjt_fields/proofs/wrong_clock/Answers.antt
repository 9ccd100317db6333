-- `cjt_fields::wrong_clock` meets its contract.
use Rattle.cjt_fields.proofs.wrong_clock.Goals as goal

pub returns : goal.returns
returns c =
    rw c.days_of-days.ensures
