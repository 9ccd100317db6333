-- `host_lines::skarrowith_read_line` meets its contract.
use borrow.Author.Rules.{rules}
use Rattle.mbus_records.specs.Telegrams.{telegram_bytes}
use Rattle.host_lines.specs.Calls.{kind_of}
use Rattle.host_lines.proofs.Laws.CallLaws.{line_refused, line_read, placed_short, placed_whole}
use Rattle.host_lines.proofs.skarrowith_read_line.Goals as goal

pub returns-then-short : goal.returns-then-short
returns-then-short c =
    let args = c.args in
    rw c.told-then-short.ensures
    (line_read args.line.now args.telegram.now c.read_line.ensures c.in-Ok.is
    (placed_short kind_of telegram_bytes _ args.telegram.now c.telegram_bytes-bytes.ensures
    c.store-short.ensures.0 c.store-short.ensures.1 136 (search rules) c.if-short.true))

pub returns-in-Err : goal.returns-in-Err
returns-in-Err c =
    let args = c.args in
    rw c.told.ensures (line_refused args.line.now args.telegram.now c.read_line.ensures c.in-Err.is)

pub returns-else-short : goal.returns-else-short
returns-else-short c =
    let args = c.args in
    line_read args.line.now args.telegram.now c.read_line.ensures c.in-Ok.is
    (placed_whole kind_of telegram_bytes _ args.telegram.now c.telegram_bytes-bytes.ensures
    c.store-short.ensures.0 c.store-short.ensures.1 136 (search rules) c.if-short.false
    c.kind_number.ensures)
