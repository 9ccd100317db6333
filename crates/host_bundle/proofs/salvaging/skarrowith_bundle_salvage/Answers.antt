-- `host_bundle::salvaging::skarrowith_bundle_salvage` meets its contract: too little room, and the two cases of what salvaging told.
use Rattle.host_bundle.proofs.Laws.Salvaging.{salvage_short, salvage_number, salvage_value}
use borrow.Author.Tests.{le-ltb, lt-ltb}
use Rattle.host_bundle.proofs.salvaging.skarrowith_bundle_salvage.Goals as goal

pub returns-then-told-lt32 : goal.returns-then-told-lt32
returns-then-told-lt32 c =
    let a = c.args in rw c.told.ensures (salvage_short a.damaged.now a.out.now a.told.now (lt-ltb _ _ c.if-told-lt32.true))

pub returns-in-Ok : goal.returns-in-Ok
returns-in-Ok c =
    let a = c.args in
    salvage_value a.damaged.now a.out.now a.told.now (le-ltb _ _ c.if-told-lt32.false) c.salvage.ensures c.in-Ok.is
    c.put_record.ensures

pub returns-in-Err : goal.returns-in-Err
returns-in-Err c =
    let a = c.args in
    rw c.told-in-Err.ensures (salvage_number a.damaged.now a.out.now a.told.now (le-ltb _ _ c.if-told-lt32.false) c.salvage.ensures c.in-Err.is)
