-- `host_exchange::skarrowith_exchange_heard` meets its contract.
use lib.ListN.{length}
use borrow.Author.Tests.{ltb-false}
use Rattle.host_exchange.proofs.Laws.CallLaws.{room_read, hears_none, hears_short, hears_line}
use borrow.Author.Tests.{le-ltb, lt-ltb}
use Rattle.host_exchange.proofs.skarrowith_exchange_heard.Goals as goal

pub returns-then-reply-lt136 : goal.returns-then-reply-lt136
returns-then-reply-lt136 c =
    let a = c.args in
    rw c.told-then-reply-lt136.ensures
    (hears_short a.kept.now a.line.now a.t a.reply.now c.slot_from.ensures
    c.in-Ok.is (lt-ltb _ _ c.if-reply-lt136.true))

pub hear-requires : goal.hear-requires
hear-requires c =
    let a = c.args in (
      room_read a.kept.now c.slot_from.ensures
          c.in-Ok.is,
      ltb-false (length a.reply.now) 136 (le-ltb _ _ c.if-reply-lt136.false),
    )

pub returns-in-Err : goal.returns-in-Err
returns-in-Err c =
    let a = c.args in
    rw c.told.ensures
    (hears_none a.kept.now a.line.now a.t a.reply.now c.slot_from.ensures
    c.in-Err.is)

pub returns-else-reply-lt136 : goal.returns-else-reply-lt136
returns-else-reply-lt136 c =
    let a = c.args in
    hears_line a.kept.now a.line.now a.t a.reply.now
    c.slot_from.ensures
    c.in-Ok.is
    (le-ltb _ _ c.if-reply-lt136.false) c.hear.ensures
