-- `host_meter::skarrowith_meter_heard` meets its contract.
use borrow.Author.Tests.{ltb-false}
use lib.ListN.{length}
use Rattle.host_meter.proofs.Laws.CallLaws.{room, hears_none, hears_short, hears_line}
use borrow.Author.Tests.{le-ltb, lt-ltb}
use Rattle.host_meter.proofs.skarrowith_meter_heard.Goals as goal

pub returns-in-Err : goal.returns-in-Err
returns-in-Err c =
    let a = c.args in
    rw c.told.ensures (hears_none a.kept.now c.meter_from.ensures a.line.now (record { 0 = a.t }) a.answer.now c.in-Err.is)

pub returns-then-short : goal.returns-then-short
returns-then-short c =
    let a = c.args in
    rw c.told-then-short.ensures
    (hears_short a.kept.now c.meter_from.ensures a.line.now (record { 0 = a.t }) a.answer.now
    c.in-Ok.is (lt-ltb _ _ c.if-short.true))

pub hear-requires : goal.hear-requires
hear-requires c =
    let a = c.args in (
      room a.kept.now c.meter_from.ensures c.in-Ok.is,
      ltb-false (length a.answer.now) 136 (le-ltb _ _ c.if-short.false),
    )

pub returns-else-short : goal.returns-else-short
returns-else-short c =
    let a = c.args in
    hears_line a.kept.now c.meter_from.ensures
    a.line.now (record { 0 = a.t }) a.answer.now c.in-Ok.is
    (le-ltb _ _ c.if-short.false) c.hear.ensures
