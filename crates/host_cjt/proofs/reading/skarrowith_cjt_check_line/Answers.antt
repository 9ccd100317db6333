-- `host_cjt::reading::skarrowith_cjt_check_line` meets its contract.
use Rattle.host_cjt.proofs.Laws.CjtReadLaws.{odd_number, even_number}
use Rattle.host_cjt.proofs.reading.skarrowith_cjt_check_line.Goals as goal

pub returns-then-bytes-eq1 : goal.returns-then-bytes-eq1
returns-then-bytes-eq1 c =
    rw c.told.ensures
    (odd_number c.args.bytes.now c.if-bytes-eq1.true)

pub returns-in-Err : goal.returns-in-Err
returns-in-Err c =
    rw c.told-in-Err.ensures
    (even_number c.args.bytes.now c.if-bytes-eq1.false
    c.outline_of.ensures c.in-Err.is)

pub returns-in-Request : goal.returns-in-Request
returns-in-Request c =
    rw c.in-Request.is at (even_number c.args.bytes.now c.if-bytes-eq1.false c.outline_of.ensures c.in-Ok.is)

pub returns-in-Answer : goal.returns-in-Answer
returns-in-Answer c =
    rw c.in-Answer.is at (even_number c.args.bytes.now c.if-bytes-eq1.false c.outline_of.ensures c.in-Ok.is)
