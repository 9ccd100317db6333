-- `host_incoming::skarrowith_find_line_after` meets its contract: each way out by its law.
use Rattle.host_incoming.proofs.Laws.Calls.{none_after, after_short, after_whole}
use Rattle.host_incoming.proofs.skarrowith_find_line_after.Goals as goal

pub returns-in-Err : goal.returns-in-Err
returns-in-Err c =
    let args = c.args in
    rw c.told.ensures
    (none_after args.t args.capture.now args.times.now args.found.now c.find_line_after.ensures
    c.in-Err.is)

pub returns-then-short : goal.returns-then-short
returns-then-short c =
    let args = c.args in
    let put = c.put_timed-short.ensures in
    rw c.told-then-short.ensures
    (after_short args.t args.capture.now args.times.now args.found.now
    c.find_line_after.ensures
    c.in-Ok.is
    put.0 put.1 c.if-short.true)

pub returns-else-short : goal.returns-else-short
returns-else-short c =
    let args = c.args in
    let put = c.put_timed-short.ensures in
    after_whole args.t args.capture.now args.times.now args.found.now
    c.find_line_after.ensures
    c.in-Ok.is
    put.0 put.1 c.if-short.false
