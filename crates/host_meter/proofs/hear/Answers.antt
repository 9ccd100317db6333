-- `host_meter::hear` meets its contract.
use Rattle.bench_clock.specs.declared.Clock.{Clock}
use Rattle.meter_steps.specs.Meters.{heard_at}
use Rattle.host_meter.proofs.Laws.CallLaws.{hears_step}
use Rattle.host_meter.proofs.hear.Goals as goal

pub returns : goal.returns
returns c =
    let a = c.args in
    let t : Clock = record { 0 = a.t } in
    hears_step a.m t (heard_at a.m a.line.now t) c.heard-step.ensures
    c.keep_step.ensures c.say.ensures
