-- `host_exchange::keep` meets its contract.
use mathlib.Core.Path.{refl}
use Rattle.host_exchange.proofs.Laws.CallLaws.{kept_refused, kept_to}
use Rattle.host_exchange.proofs.keep.Goals as goal

pub returns-in-Err : goal.returns-in-Err
returns-in-Err c =
    rw c.told.ensures (kept_refused c.args.kept.now c.in-Err.is)

pub returns-in-Ok : goal.returns-in-Ok
returns-in-Ok c =
    kept_to c.args.kept.now
    c.in-Ok.is
    c.exchange_bytes-bytes.ensures
    c.requires c.store.ensures.1 refl
