-- `run_verdicts::judging::asked` meets its contract: there is no exchange, or it takes the send, or refuses it.
use mathlib.Core.Path.{◌∙◌}
use Rattle.run_verdicts.proofs.Laws.Judging.{sent_again, sent_first}
use Rattle.run_verdicts.proofs.judging.asked.Goals as goal

pub returns-in-Idle : goal.returns-in-Idle
returns-in-Idle c = rw c.in-Idle.is c.first.ensures

pub returns-in-Ok : goal.returns-in-Ok
returns-in-Ok c =
    let a = c.args in
    rw c.in-Busy.is
    (sent_again c.in-Busy.x a.request a.end c.resent.ensures c.in-Ok.is)

pub returns-in-Err : goal.returns-in-Err
returns-in-Err c =
    let a = c.args in
    rw c.in-Busy.is
    (c.first-in-Err.ensures
    ∙ sent_first c.in-Busy.x a.request a.end c.resent.ensures c.in-Err.is)
