-- The pieces of a list's elements, one behind the other.
use Rattle.std.specs.Prelude.{List, [], ◌∷◌, ◌++◌}

abbrev pub pieces : {A B : Type 0} → (A → List B) → List A → List B
pieces f [] = []
pieces f (x ∷ xs) = f x ++ pieces f xs
