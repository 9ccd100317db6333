-- `host_either::skarrowith_find_either` meets its contract: each way out by its law.
use Rattle.host_either.proofs.Laws.Finding.{neither_found, either_short, either_whole}
use Rattle.host_either.proofs.skarrowith_find_either.Goals as goal

pub returns-then-short : goal.returns-then-short
returns-then-short c =
    let args = c.args in
    rw c.told-then-short.ensures
    (either_short args.mbus.now args.optical.now args.found.now c.either_at.ensures c.in-Ok.is
    c.put_spot-short.ensures.0 c.put_spot-short.ensures.1 c.if-short.true)

pub returns-in-Err : goal.returns-in-Err
returns-in-Err c =
    let args = c.args in
    rw c.told.ensures (neither_found args.mbus.now args.optical.now args.found.now c.either_at.ensures c.in-Err.is)

pub returns-in-Mbus : goal.returns-in-Mbus
returns-in-Mbus c =
    let args = c.args in
    either_whole args.mbus.now args.optical.now args.found.now c.either_at.ensures c.in-Ok.is
    c.put_spot-short.ensures.0 c.put_spot-short.ensures.1 c.if-short.false c.in-Mbus.is

pub returns-in-Optical : goal.returns-in-Optical
returns-in-Optical c =
    let args = c.args in
    either_whole args.mbus.now args.optical.now args.found.now c.either_at.ensures c.in-Ok.is
    c.put_spot-short.ensures.0 c.put_spot-short.ensures.1 c.if-short.false c.in-Optical.is
