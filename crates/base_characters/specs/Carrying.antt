-- 01, "Refusal numbers": what writing characters answers, and what it leaves in the places lent to it.
use Rattle.std.specs.Prelude.{◌≡◌, ℕ, List, Result, map, length, nat_lt}
use Rattle.base_rules.specs.Answers.{Answer, reads, refuse, within}
use Rattle.base_rules.specs.declared.refusals.Refusal.{Refusal}
use Rattle.base_rules.specs.Shown.{shown}
use Rattle.base_characters.specs.Characters.{carrier}
use Rattle.base_lent.specs.Lent.{stored}

-- What writing answers: the number of a refusal, or how many characters the line has.
pub record Writes (a : Answer (List ℕ)) (before after : List ℕ) (r : Result ℕ Refusal) : Type 0 where
  pub answer : r ≡ shown (within length a)
  pub places : after ≡ stored (λ line. line) before a

-- the characters that carry bytes, 21 where there are fewer places
abbrev pub carried_in : List ℕ → ℕ → Answer (List ℕ)
carried_in bytes places = refuse 21 (nat_lt places (length (map carrier bytes))) (reads (map carrier bytes))
