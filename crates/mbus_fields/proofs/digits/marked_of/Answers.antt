-- `mbus_fields::digits::marked_of` meets its contract.
use Rattle.mbus_fields.proofs.Laws.MarkLaws.{word_small}
use Rattle.mbus_fields.proofs.digits.marked_of.Goals as goal

pub sign_on-requires : goal.sign_on-requires
sign_on-requires c = rw c.packed_in-size.ensures (word_small c.unmarked.result)

pub returns : goal.returns
returns c = rw (c.sign_on.ensures, c.packed_in-size.ensures, c.unmarked.ensures)
