-- `reply_of` meets its contract: the telegram of the reading, or of none.
use mathlib.Core.Path.{sym, ap, ◌∙◌}
use Rattle.std.specs.Result.{result_unwrap_or}
use Rattle.exchange_steps.proofs.reply_of.Goals as goal

pub returns-then-ends_well : goal.returns-then-ends_well
returns-then-ends_well c =
    rw (sym c.ends_well.ensures ∙ c.if-ends_well.true) (c.unwrap_or.ensures ∙ ap (result_unwrap_or c.args.reading) c.bare-blank.ensures)

pub returns : goal.returns
returns c = rw (sym c.ends_well.ensures ∙ c.if-ends_well.false) c.bare-blank.ensures
