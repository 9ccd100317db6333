-- `host_meter::skarrowith_meter_set_up` meets its contract.
use Rattle.host_meter.proofs.Laws.CallLaws.{sets_none, sets_short, sets_up}
use borrow.Author.Tests.{le-ltb, lt-ltb}
use Rattle.host_meter.proofs.skarrowith_meter_set_up.Goals as goal

pub returns-in-Err : goal.returns-in-Err
returns-in-Err c =
    let a = c.args in
    rw c.told.ensures (sets_none a.kept.now a.address a.template.now c.telegram_from.ensures c.in-Err.is)

pub returns-then-short : goal.returns-then-short
returns-then-short c =
    let a = c.args in
    rw c.told-then-short.ensures
    (sets_short a.kept.now a.address a.template.now c.telegram_from.ensures c.in-Ok.is (lt-ltb _ _ c.if-short.true))

pub returns-else-short : goal.returns-else-short
returns-else-short c =
    let a = c.args in
    sets_up a.kept.now a.address a.template.now c.telegram_from.ensures
    c.in-Ok.is (le-ltb _ _ c.if-short.false)
    c.set_up.ensures c.begin.ensures
