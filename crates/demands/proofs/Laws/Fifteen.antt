-- Proofs of the statements of specs/Fifteen.
use mathlib.Core.Bool.{true≢false}
use mathlib.Core.Path.{sym, subst, ◌∙◌}
use Rattle.base_rules.specs.Lists.{any}
use Rattle.mbus_rules.proofs.Laws.Fifteen.{lines_alike}
use Rattle.demands.specs.Refusals.{By, line_numbers}
use Rattle.demands.proofs.Laws.Refusals.{reading_by}
use Rattle.demands.specs.Fifteen.{AnswersAlike, Never15}

pub answers_alike : AnswersAlike
answers_alike = lines_alike

pub never_15 : Never15
unfolding By any
never_15 s e = true≢false (sym (subst (By line_numbers) (sym (answers_alike s) ∙ e) (reading_by s)))
