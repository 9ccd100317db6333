-- `bundle_rows::wrong_field` meets its contract.
use Rattle.bundle_rows.proofs.wrong_field.Goals as goal

pub returns : goal.returns
returns c = rw c.wrong_position-outside.ensures
