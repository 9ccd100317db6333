-- `host_cjt::reading::skarrowith_cjt_read_line` meets its contract.
use Rattle.host_cjt.proofs.Laws.CjtReadLaws.{line_refused, line_short, line_read}
use Rattle.host_cjt.proofs.reading.skarrowith_cjt_read_line.Goals as goal

pub returns-then-short : goal.returns-then-short
returns-then-short c =
    rw c.told-then-short.ensures
    (line_short c.args.line.now c.args.telegram.now
    c.read_line.ensures
    c.in-Ok.is
    c.cjt_bytes-bytes.ensures c.store-short.ensures.0
    c.store-short.ensures.1 c.if-short.true)

pub returns-in-Err : goal.returns-in-Err
returns-in-Err c =
    rw c.told.ensures
    (line_refused c.args.line.now c.args.telegram.now c.read_line.ensures c.in-Err.is)

pub returns-else-short : goal.returns-else-short
returns-else-short c =
    line_read c.args.line.now c.args.telegram.now
    c.read_line.ensures
    c.in-Ok.is
    c.cjt_bytes-bytes.ensures c.store-short.ensures.0
    c.store-short.ensures.1 c.if-short.false c.kind_number.ensures
