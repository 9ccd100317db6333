-- `host_incoming::put_timed` meets its contract.
use mathlib.Core.Path.{refl}
use Rattle.host_incoming.proofs.Laws.Calls.{timed_copied}
use Rattle.host_incoming.proofs.put_timed.Goals as goal

pub returns : goal.returns
returns c =
    let args = c.args in
    (refl, timed_copied args.found.now args.line.spot.place args.line.spot.length args.line.time c.put_record.ensures)
