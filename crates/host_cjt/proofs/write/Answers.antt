-- `host_cjt::write` meets its contract.
use native.Mathlib.Omega.{arith}
use Rattle.host_cjt.proofs.Laws.CjtCallLaws.{not_written, line_written, written_few}
use Rattle.host_cjt.proofs.write.Goals as goal

pub overflow_cast-result : goal.overflow_cast-result
overflow_cast-result c = omega (arith, written_few c.args.telegram c.write_line.ensures c.in-Ok.is)

pub returns-in-Err : goal.returns-in-Err
returns-in-Err c = rw c.told.ensures (not_written c.args.telegram c.write_line.ensures c.in-Err.is)

pub returns-in-Ok : goal.returns-in-Ok
returns-in-Ok c = line_written c.args.telegram c.write_line.ensures c.in-Ok.is
