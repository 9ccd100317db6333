-- What every function for C answers, and what it leaves in memory that was lent to it.
use Rattle.std.specs.Prelude.{ℕ, ◌+◌, List, ◌≡◌, ltb, length}
use Rattle.base_rules.specs.Answers.{Answer, reads, refusal, refuse, follow}
use Rattle.base_lent.specs.Copying.{laid}

-- The answer is a number below 256, or 256 plus the refusal number.
abbrev pub told : {A : Type 0} → (A → ℕ) → Answer A → ℕ
told number (refusal n) = 256 + n
told number (reads a) = number a

-- where there is nothing to tell but that it was done
abbrev pub done : {A : Type 0} → A → ℕ
done a = 0

-- What is written stands in the first places and nothing beyond; a refusal leaves everything as it was.
abbrev pub stored : {A B : Type 0} → (A → List B) → List B → Answer A → List B
stored written out (refusal n) = out
stored written out (reads a) = laid out 0 (written a)

-- What a function for C promises of its answer and of memory that was lent to it.
pub record Leaves {A B : Type 0} (number : A → ℕ) (written : A → List B) (a : Answer A) (before after : List B) (r : ℕ) : Type 0 where
  pub answer : r ≡ told number a
  pub left : after ≡ stored written before a

-- 21: fewer places than are needed.
abbrev pub needs : {A B : Type 0} → ℕ → List B → Answer A → Answer A
needs n out next = refuse 21 (ltb (length out) n) next

-- The same where everything else is tried first.
abbrev pub placed : {A B : Type 0} → ℕ → List B → Answer A → Answer A
placed n out answer = follow answer (λ a. needs n out (reads a))
