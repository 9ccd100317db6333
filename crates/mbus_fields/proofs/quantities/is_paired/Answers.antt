-- `mbus_fields::quantities::is_paired` meets its contract.
use mathlib.Core.Path.{ap, ◌∙◌}
use Rattle.mbus_fields.specs.Fields.{goes_with}
use Rattle.mbus_fields.proofs.Laws.TableLaws.{goes_paired}
use Rattle.mbus_fields.proofs.quantities.is_paired.Goals as goal

pub returns : goal.returns
returns c = c.goes_with.ensures ∙ ap (goes_with c.args.structure) c.quantity_of.ensures ∙ goes_paired
    c.args.structure c.args.unit
