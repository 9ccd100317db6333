-- `host_search::skarrowith_find_line` meets its contract: each way out by its law.
use Rattle.host_search.proofs.Laws.Finding.{none_found, found_short, found_whole}
use Rattle.host_search.proofs.skarrowith_find_line.Goals as goal

pub returns-in-Err : goal.returns-in-Err
returns-in-Err c =
    let args = c.args in
    rw c.told.ensures (none_found args.capture.now args.found.now c.find_line.ensures c.in-Err.is)

pub returns-then-short : goal.returns-then-short
returns-then-short c =
    let args = c.args in
    let put = c.put_spot-short.ensures in
    rw c.told-then-short.ensures (found_short args.capture.now args.found.now c.find_line.ensures c.in-Ok.is put.0 put.1 c.if-short.true)

pub returns-else-short : goal.returns-else-short
returns-else-short c =
    let args = c.args in
    let put = c.put_spot-short.ensures in
    found_whole args.capture.now args.found.now c.find_line.ensures
    c.in-Ok.is put.0 put.1 c.if-short.false
