-- Answers with the value left out.
use Rattle.base_rules.specs.Answers.{Answer, within}

-- The number of a refusal, and nothing beside acceptance.
abbrev pub alone : {A : Type 0} → Answer A → Answer (Unit {0})
alone {A} = within (λ (a : A). tt)
