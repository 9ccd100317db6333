-- `host_meter::begin` meets its contract.
use Rattle.host_meter.proofs.Laws.CallLaws.{begun_refused, begun_kept}
use borrow.Author.Rules.{rules}
use Rattle.host_meter.proofs.begin.Goals as goal

pub returns-in-Err : goal.returns-in-Err
returns-in-Err c = rw c.told.ensures (begun_refused c.args.kept.now c.in-Err.is)

pub returns-in-Ok : goal.returns-in-Ok
returns-in-Ok c = begun_kept c.args.kept.now c.in-Ok.is c.meter_bytes-bytes.ensures (search rules) c.store.ensures.1
