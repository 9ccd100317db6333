-- What choosing answers, and what it leaves in the second buffer.
use Rattle.std.specs.Prelude.{ℕ, List, ◌≡◌}
use Rattle.base_rules.specs.Answers.{Answer}
use Rattle.base_lent.specs.Lent.{stored}
use Rattle.std.specs.Prelude.{Result}
use Rattle.base_rules.specs.declared.refusals.Refusal.{Refusal}
use Rattle.base_rules.specs.Shown.{shown}
use Rattle.bundle_joining.specs.Choosing.{position_bundle, choosing_of}

-- what the second buffer then holds: the bundle of the position in its first bytes; after a refusal, what it held
abbrev pub buffer_chosen : Answer ℕ → List ℕ → ℕ → List ℕ → List ℕ
buffer_chosen answer b position out = stored (λ (n : ℕ). position_bundle position b) out answer

-- The bundle is only lent to read.
pub record Chooses (b : List ℕ) (position : ℕ) (before : List ℕ) (r : Result ℕ Refusal) (after : List ℕ) : Type 0 where
  pub answer : r ≡ shown (choosing_of b position before)
  pub left : after ≡ buffer_chosen (choosing_of b position before) b position before
