-- What a function for C leaves in the place that was lent for a number.
use Rattle.std.specs.Prelude.{ℕ, ◌≡◌}
use Rattle.base_rules.specs.Answers.{Answer, reads, refusal}
use Rattle.base_lent.specs.Lent.{told, done}

-- The place holds the number; a refusal leaves it as it was.
abbrev pub left_in : ℕ → Answer ℕ → ℕ
left_in before (refusal n) = before
left_in before (reads a) = a

-- 0, and the number in its place; or 256 plus the refusal number, and the place as it was.
pub record Gives (a : Answer ℕ) (before r after : ℕ) : Type 0 where
  pub number : r ≡ told done a
  pub place : after ≡ left_in before a
