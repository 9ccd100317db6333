-- `mbus_telegrams::bare` meets its contract.
use Rattle.mbus_telegrams.proofs.bare.Goals as goal

pub returns : goal.returns
returns c = rw c.blank_entry-blank.ensures
