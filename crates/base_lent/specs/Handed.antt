-- What a function for C answers that hands out one value, and what it leaves in the place lent for it.
use Rattle.std.specs.Prelude.{ℕ, ◌+◌, ◌≡◌, Result, Ok, Err}
use Rattle.base_rules.specs.declared.refusals.Refusal.{Refusal}

-- 0 and the value; or 256 plus the number of the refusal, and the place is as it was
abbrev pub Hands : {A : Type 0} → Result A Refusal → A → A → ℕ → Type 0
Hands (Ok a) before after r = (r ≡ 0) × (after ≡ a)
Hands (Err e) before after r = (r ≡ 256 + e.0) × (after ≡ before)
