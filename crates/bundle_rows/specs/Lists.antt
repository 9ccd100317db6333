-- What the statements about a bundle ask of lists.
use Rattle.std.specs.Prelude.{List, [], ◌∷◌}

-- each element has the property
abbrev pub All : {A : Type 0} → (A → Type 0) → List A → Type 0
All P [] = Unit {0}
All P (x ∷ l) = P x × All P l
