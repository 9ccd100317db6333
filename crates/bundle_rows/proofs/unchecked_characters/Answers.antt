-- `bundle_rows::unchecked_characters` meets its contract: the characters are those of the body.
use Rattle.bundle_rows.specs.Rows.{unchecked_characters}
use Rattle.bundle_rows.proofs.unchecked_characters.Goals as goal

pub returns : goal.returns
unfolding unchecked_characters
returns c =
    rw (← c.unchecked_body-body.ensures) c.put_characters.ensures
