-- `host_exchange::skarrowith_exchange_tick` meets its contract: on a record that is refused, and on one that is read.
use Rattle.exchange_steps.specs.Histories.{tick}
use Rattle.host_exchange.proofs.Laws.CallLaws.{not_read, room_read, was_read}
use Rattle.host_exchange.proofs.skarrowith_exchange_tick.Goals as goal

pub keep-requires : goal.keep-requires
keep-requires c =
    room_read c.args.kept.now
    c.slot_from.ensures c.in-Ok.is

pub returns-in-Err : goal.returns-in-Err
returns-in-Err c =
    let a = c.args in
    rw c.told.ensures (not_read a.kept.now (tick (record { 0 = a.t })) c.slot_from.ensures c.in-Err.is)

pub returns-in-Ok : goal.returns-in-Ok
returns-in-Ok c =
    let a = c.args in
    was_read a.kept.now (tick (record { 0 = a.t })) c.slot_from.ensures
    c.in-Ok.is c.tick.ensures c.keep.ensures
