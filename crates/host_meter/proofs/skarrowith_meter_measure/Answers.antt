-- `host_meter::skarrowith_meter_measure` meets its contract.
use Rattle.host_meter.proofs.Laws.CallLaws.{room, measures_none, measures}
use Rattle.host_meter.proofs.skarrowith_meter_measure.Goals as goal

pub returns-in-Err : goal.returns-in-Err
returns-in-Err c =
    let a = c.args in
    rw c.told.ensures (measures_none a.kept.now c.meter_from.ensures a.volume a.energy (record { 0 = a.t }) c.in-Err.is)

pub keep_step-requires : goal.keep_step-requires
keep_step-requires c = room c.args.kept.now c.meter_from.ensures c.in-Ok.is

pub returns-in-Ok : goal.returns-in-Ok
returns-in-Ok c =
    let a = c.args in
    measures a.kept.now c.meter_from.ensures a.volume a.energy
    (record { 0 = a.t }) c.in-Ok.is
    c.measure.ensures c.keep_step.ensures
