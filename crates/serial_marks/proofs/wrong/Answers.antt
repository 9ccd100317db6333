-- `serial_marks::wrong` meets its contract: bit 8 is turned over.
use Rattle.serial_marks.proofs.Laws.MarkLaws.{wronged_turned}
use Rattle.serial_marks.proofs.wrong.Goals as goal

pub returns : goal.returns
returns c = rw c.right.ensures (wronged_turned c.args.byte)
