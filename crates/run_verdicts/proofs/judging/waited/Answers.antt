-- `run_verdicts::judging::waited` meets its contract: the step is taken, or refused.
use Rattle.exchange_steps.specs.Steps.{tick_on}
use Rattle.run_verdicts.proofs.Laws.Judging.{stands_on, stands_still}
use Rattle.run_verdicts.proofs.judging.waited.Goals as goal

pub returns-in-Ok : goal.returns-in-Ok
returns-in-Ok c =
    let a = c.args in
    stands_on a.slot (tick_on a.slot a.t) c.tick.ensures c.in-Ok.is

pub returns-in-Err : goal.returns-in-Err
returns-in-Err c =
    let a = c.args in
    stands_still a.slot (tick_on a.slot a.t) c.tick.ensures c.in-Err.is
