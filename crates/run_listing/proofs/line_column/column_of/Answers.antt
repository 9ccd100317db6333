-- `run_listing::column_of` meets its contract: a wake-up, or the outline.
use mathlib.Core.Path.{sym, ap, ◌∙◌}
use Rattle.run_listing.specs.declared.line_column.Column.TheVariants.{Reads}
use Rattle.run_listing.specs.LineColumn.{column_of}
use Rattle.run_listing.proofs.line_column.column_of.Goals as goal

pub returns-then-is_wake : goal.returns-then-is_wake
unfolding column_of
returns-then-is_wake c = rw (sym c.is_wake.ensures ∙ c.if-is_wake.true)

pub returns : goal.returns
unfolding column_of
returns c = rw (sym c.is_wake.ensures ∙ c.if-is_wake.false) (ap Reads c.outline_of.ensures)
