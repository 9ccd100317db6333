-- `run_verdicts::judging::after_heard` meets its contract: the step is taken, or refused.
use Rattle.exchange_steps.specs.Steps.{heard_on}
use Rattle.run_verdicts.proofs.Laws.Judging.{stands_on, stands_still}
use Rattle.run_verdicts.proofs.judging.after_heard.Goals as goal

pub returns-in-Ok : goal.returns-in-Ok
returns-in-Ok c =
    let a = c.args in
    stands_on a.slot (heard_on a.slot a.outline a.t) c.seen.ensures c.in-Ok.is

pub returns-in-Err : goal.returns-in-Err
returns-in-Err c =
    let a = c.args in
    stands_still a.slot (heard_on a.slot a.outline a.t) c.seen.ensures c.in-Err.is
