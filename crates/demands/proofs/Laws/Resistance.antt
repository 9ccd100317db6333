-- Proofs of the statements of specs/Resistance.
use Prim.Native.Nat.{ℕ, ◌*◌}
use mathlib.Core.Path.{refl, sym, subst}
use Rattle.base_numbers.specs.Rounding.{NearestUp}
use Rattle.bench_resistance.specs.Resistances.{exact, parts_of_one, stored_for, stored_from, resistance}
use Rattle.bench_resistance.proofs.Laws.Card.{exact_whole, card_at, stored_nearest}
use Rattle.bench_resistance.proofs.Laws.Lines.{resistance_near, resistance_rises}
use Rattle.bench_resistance.proofs.Laws.Answers.{temperature_back, temperature_highest}
use Rattle.demands.specs.Resistance.{RuleIsWhole, CardIsTheRule, AnswersAreNear, AnswersRise, ThereAndBack, TheHighest, ResistanceValues}

pub rule_is_whole : RuleIsWhole
rule_is_whole = exact_whole

pub card_is_the_rule : CardIsTheRule
unfolding stored_from
card_is_the_rule =
    (refl, λ degree h. subst (λ (m : ℕ). NearestUp (exact (100 * degree)) parts_of_one m) (sym (card_at degree h)) (stored_nearest degree))

pub answers_are_near : AnswersAreNear
answers_are_near = resistance_near

pub answers_rise : AnswersRise
answers_rise = resistance_rises

pub there_and_back : ThereAndBack
there_and_back = temperature_back

pub the_highest : TheHighest
the_highest milliohm h e =
    let p = temperature_highest milliohm h e in
    (p.inside, p.«not-above», p.«none-higher»)

pub resistance_values : ResistanceValues
unfolding stored_for resistance
resistance_values = (refl, refl, refl, refl, refl, refl, refl, refl)
