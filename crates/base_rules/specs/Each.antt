-- Demand 3: lines joined end to end.
use Rattle.std.specs.Prelude.{ℕ}
use mathlib.Core.List.{List, Memᴰ}

-- each line of the list has the property
abbrev pub Each : (List ℕ → Type 0) → List (List ℕ) → Type 0
Each Property ss = (s : List ℕ) → Memᴰ s ss → Property s
