-- `host_cjt::skarrowith_cjt_energy_entry` meets its contract.
use Rattle.host_cjt.proofs.Laws.CjtCallLaws.{entry_short, entry_refused, entry_given}
use borrow.Author.Tests.{le-ltb, lt-ltb}
use Rattle.host_cjt.proofs.skarrowith_cjt_energy_entry.Goals as goal

pub returns-then-short : goal.returns-then-short
returns-then-short c =
    rw c.told.ensures
    (entry_short c.args.count c.args.code c.args.place.now (lt-ltb _ _ c.if-short.true))

pub returns-in-Err : goal.returns-in-Err
returns-in-Err c =
    rw c.told-in-Err.ensures
    (entry_refused c.args.count
    c.args.code c.args.place.now
    (le-ltb _ _ c.if-short.false) c.entry_for.ensures c.in-Err.is)

pub returns-in-Ok : goal.returns-in-Ok
returns-in-Ok c =
    entry_given c.args.count
    c.args.code c.args.place.now
    (le-ltb _ _ c.if-short.false)
    c.entry_for.ensures
    c.in-Ok.is c.entry_bytes-bytes.ensures
    c.lay.ensures
