-- `host_lines::skarrowith_write_line` meets its contract.
use Rattle.host_lines.proofs.Laws.CallLaws.{no_record, record_line}
use Rattle.host_lines.proofs.skarrowith_write_line.Goals as goal

pub returns-in-Err : goal.returns-in-Err
returns-in-Err c = rw c.told.ensures (no_record c.args.telegram.now c.args.out.now c.telegram_from.ensures c.in-Err.is)

pub returns-in-Ok : goal.returns-in-Ok
returns-in-Ok c = record_line c.args.telegram.now c.args.out.now c.telegram_from.ensures c.in-Ok.is c.write.ensures
