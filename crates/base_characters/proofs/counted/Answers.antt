-- `base_characters::counted` meets its contract.
use Rattle.std.proofs.Common.{sym, ◌∙◌}
use Rattle.base_characters.proofs.Laws.FlagLaws.{flagged_odd, flagged_even}
use Rattle.base_characters.proofs.counted.Goals as goal

pub returns-then-counts_odd : goal.returns-then-counts_odd
returns-then-counts_odd c = flagged_odd c.args.c (sym c.counts_odd.ensures ∙ c.if-counts_odd.true)

pub returns-else-counts_odd : goal.returns-else-counts_odd
returns-else-counts_odd c = flagged_even c.args.c (sym c.counts_odd.ensures ∙ c.if-counts_odd.false)
