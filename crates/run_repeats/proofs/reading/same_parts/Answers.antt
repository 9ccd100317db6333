-- `run_repeats::reading::same_parts` meets its contract.
use mathlib.Core.Path.{sym, ◌∙◌}
use Rattle.run_repeats.specs.Repeats.{same_parts}
use Rattle.run_repeats.proofs.reading.same_parts.Goals as goal

pub returns-then-is_same : goal.returns-then-is_same
unfolding same_parts
returns-then-is_same c = rw (sym c.is_same.ensures ∙ c.if-is_same.true) c.is_same-then-is_same.ensures

pub returns-else-is_same : goal.returns-else-is_same
unfolding same_parts
returns-else-is_same c = rw (sym c.is_same.ensures ∙ c.if-is_same.false) c.if-is_same.false
