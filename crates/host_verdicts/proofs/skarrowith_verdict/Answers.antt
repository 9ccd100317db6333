-- `host_verdicts::skarrowith_verdict` meets its contract: too little room, and the two cases of what was found.
use Rattle.run_verdicts.specs.Answering.{verdicts_in}
use Rattle.host_verdicts.proofs.Laws.Told.{full_in, one_short, one_refused, one_given}
use borrow.Author.Tests.{le-ltb, lt-ltb}
use Rattle.host_verdicts.proofs.skarrowith_verdict.Goals as goal

pub returns-then-short : goal.returns-then-short
returns-then-short c =
    let a = c.args in
    rw c.told.ensures (one_short (verdicts_in a.bundle.now) a.i a.verdict.now (lt-ltb _ _ c.if-short.true))

pub found-requires : goal.found-requires
found-requires c =
    full_in c.args.bundle.now c.verdicts_in.ensures

pub returns-in-Ok : goal.returns-in-Ok
returns-in-Ok c =
    let a = c.args in
    one_given (verdicts_in a.bundle.now) a.i a.verdict.now (le-ltb _ _ c.if-short.false) c.verdicts_in.ensures
    c.found.ensures c.in-Ok.is c.record_of-bytes.ensures
    c.store.ensures.1

pub returns-in-Err : goal.returns-in-Err
returns-in-Err c =
    let a = c.args in
    rw c.told-in-Err.ensures
    (one_refused (verdicts_in a.bundle.now) a.i a.verdict.now (le-ltb _ _ c.if-short.false) c.verdicts_in.ensures
    c.found.ensures c.in-Err.is)
