-- 02, "Setting the resistance box", for C: one place is lent for the number.
use Rattle.std.specs.Prelude.{ℕ, [], ◌∷◌}
use Rattle.base_rules.specs.Answers.{Answer}
use Rattle.base_lent.specs.Lent.{done, Leaves}

-- 0, and the number in its place; or 256 plus the refusal number, and the place as it was
abbrev pub LeavesOne : Answer ℕ → ℕ → ℕ → ℕ → Type 0
LeavesOne a before after r = Leaves done (λ n. n ∷ []) a (before ∷ []) (after ∷ []) r
