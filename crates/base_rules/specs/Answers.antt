-- 01, "Refusal numbers": a refusal hands back the number alone.
use Rattle.std.specs.Prelude.{ℕ, Bool, cond}

-- What a rule answers: the number of a refusal, or the value.
pub data Answer (A : Type 0) : Type 0 where
  refusal : ℕ → Answer A
  reads : A → Answer A

-- The lowest number that applies comes first: n where its test holds, else what comes next.
abbrev pub refuse : {A : Type 0} → ℕ → Bool → Answer A → Answer A
refuse n test next = cond test (refusal n) next

-- A refusal stays what it is; a value is made part of another.
abbrev pub within : {A B : Type 0} → (A → B) → Answer A → Answer B
within f (refusal n) = refusal n
within f (reads a) = reads (f a)

-- After an answer, the next rule: a refusal stays what it is, and a value is handed on.
abbrev pub follow : {A B : Type 0} → Answer A → (A → Answer B) → Answer B
follow (refusal n) next = refusal n
follow (reads a) next = next a
