-- `mbus_reading::body::asked` meets its contract.
use mathlib.Core.Path.{sym, ap, ◌∙◌}
use Rattle.mbus_shape.specs.Shapes.{asked_of}
use Rattle.mbus_reading.proofs.body.asked.Goals as goal

pub returns-in-Read : goal.returns-in-Read
returns-in-Read c = c.bare.ensures ∙ ap asked_of (sym c.in-Read.is)

pub returns-in-Enter : goal.returns-in-Enter
returns-in-Enter c = c.bare-in-Enter.ensures ∙ ap asked_of (sym c.in-Enter.is)

pub returns-in-Leave : goal.returns-in-Leave
returns-in-Leave c = c.bare-in-Leave.ensures ∙ ap asked_of (sym c.in-Leave.is)
