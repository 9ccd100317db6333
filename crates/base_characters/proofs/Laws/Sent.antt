-- A line that is received and accepted against the line that was sent.
use Rattle.std.proofs.Common.{◌≡◌, ℕ, ◌≤◌, List, [], ◌∷◌, length, refl, arith}
use Rattle.base_characters.specs.Flips.{Place, flips, Places}
use Rattle.base_characters.proofs.Laws.Codes.{Code, flips_refused}

module _ {Accepted Rule : List ℕ → Type 0} (code : Code Accepted Rule) where
  -- A received line with at most three flips that is accepted is the line that was sent.
  pub accepted_is_sent : (s : List ℕ) (ps : List Place) → Accepted s → Places s ps → length ps ≤ 3 → Accepted (flips ps s) → flips ps s ≡ s
  unfolding flips
  accepted_is_sent s [] a places few b = refl
  accepted_is_sent s (p ∷ ps) a places few b = absurd (flips_refused code s (p ∷ ps) a places (omega arith) few b)
