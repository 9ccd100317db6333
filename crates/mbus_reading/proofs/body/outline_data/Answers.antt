-- `mbus_reading::body::outline_data` meets its contract.
use mathlib.Core.Path.{sym, ap, ◌∙◌}
use Rattle.mbus_rules.specs.Outlines.{outlined}
use Rattle.mbus_reading.proofs.Laws.BodyLaws.{data_refused, data_outlined}
use Rattle.mbus_reading.proofs.body.outline_data.Goals as goal

pub returns-in-Ok : goal.returns-in-Ok
returns-in-Ok c = data_outlined c.args.address c.args.part.now (sym c.in-Ok.is ∙ c.body_of.ensures)

pub returns-in-Err : goal.returns-in-Err
returns-in-Err c = ap outlined (sym (data_refused c.args.address c.args.part.now (sym c.in-Err.is ∙ c.body_of.ensures)))
