-- `bundle_joining::position::of_position` meets its contract: by the check's refusal, by the position, or chosen.
use mathlib.Core.Path.{◌≡◌, sym, ◌∙◌}
use Rattle.std.proofs.Common.{rules}
use Rattle.base_rules.specs.Answers.{reads}
use Rattle.base_rules.proofs.Laws.AnswerLaws.{shown_ok}
use Rattle.bundle_check.specs.Bundles.{check_of}
use Rattle.bundle_joining.specs.Choosing.{choosing_of}
use Rattle.bundle_joining.proofs.Laws.ChoosingShown.{choosing_outside}
use Rattle.bundle_joining.proofs.position.of_position.Goals.{In_ok-count}
use Rattle.bundle_joining.proofs.position.of_position.Goals as goal

-- the count as the check gave it
counted : (c : In_ok-count) → check_of c.args.bundle.now ≡ reads c.in_ok-count.count
counted c = shown_ok (check_of c.args.bundle.now) c.in_ok-count.count (sym c.check.ensures ∙ c.in_ok-count.was)

pub returns-in_err-count : goal.returns-in_err-count
unfolding choosing_of
returns-in_err-count c = search rules

pub returns-then-wrong_position : goal.returns-then-wrong_position
returns-then-wrong_position c =
    let a = c.args in
    choosing_outside a.bundle.now a.position a.out.now c.in_ok-count.count (counted (goal.at.returns-then-wrong_position c).In_ok-count)
    (sym c.wrong_position.ensures ∙ c.if-wrong_position.true)

pub choose-requires : goal.choose-requires
choose-requires c = sym c.wrong_position.ensures ∙ c.if-wrong_position.false
