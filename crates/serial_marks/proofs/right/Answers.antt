-- `serial_marks::right` meets its contract: the count of the bits gives the parity bit.
use Rattle.serial_marks.proofs.Laws.MarkLaws.{carrier_counted}
use borrow.Author.Rules.{rules}
use Rattle.serial_marks.proofs.right.Goals as goal

pub returns : goal.returns
returns c = carrier_counted c.args.byte (search rules)
