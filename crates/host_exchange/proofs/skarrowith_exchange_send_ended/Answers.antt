-- `host_exchange::skarrowith_exchange_send_ended` meets its contract: on a record that is refused, and on one that is read.
use Rattle.mbus_rules.specs.Telegrams.{bare}
use Rattle.mbus_telegrams.specs.Kinds.{kind_in}
use Rattle.exchange_steps.specs.Histories.{send_ended}
use Rattle.host_exchange.proofs.Laws.CallLaws.{not_read, room_read, send_was_read}
use Rattle.host_exchange.proofs.skarrowith_exchange_send_ended.Goals as goal

pub keep-requires : goal.keep-requires
keep-requires c =
    room_read c.args.kept.now
    c.slot_from.ensures c.in-Ok.is

pub returns-in-Err : goal.returns-in-Err
returns-in-Err c =
    let a = c.args in
    rw c.told.ensures (not_read a.kept.now (send_ended (bare (kind_in a.kind) a.address a.method) (record { 0 = a.t }))
    c.slot_from.ensures c.in-Err.is)

pub returns-in-Ok : goal.returns-in-Ok
returns-in-Ok c =
    let a = c.args in
    send_was_read a.kept.now a.kind a.address a.method a.t
    c.slot_from.ensures
    c.in-Ok.is
    c.kind_in.ensures c.bare-telegram.ensures
    c.send_ended.ensures c.keep.ensures
