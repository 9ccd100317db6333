-- What joining answers, and what it leaves in the third buffer.
use Rattle.std.specs.Prelude.{ℕ, List, ◌≡◌}
use Rattle.base_rules.specs.Answers.{Answer}
use Rattle.base_lent.specs.Lent.{stored}
use Rattle.std.specs.Prelude.{Result}
use Rattle.base_rules.specs.declared.refusals.Refusal.{Refusal}
use Rattle.base_rules.specs.Shown.{shown}
use Rattle.bundle_joining.specs.Joining.{joined_bundle, join_of}

-- what the third buffer then holds: the new bundle in its first bytes; after a refusal, what it held
abbrev pub buffer_joined : Answer ℕ → List ℕ → List ℕ → List ℕ → List ℕ
buffer_joined answer a b out = stored (λ (n : ℕ). joined_bundle a b) out answer

-- Both bundles are only lent to read.
pub record Joins (a b before : List ℕ) (r : Result ℕ Refusal) (after : List ℕ) : Type 0 where
  pub answer : r ≡ shown (join_of a b before)
  pub left : after ≡ buffer_joined (join_of a b before) a b before
