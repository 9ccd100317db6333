-- Walks along a list that carry a state: each element is looked at with the state in which the ones before it left the walk.
use Rattle.std.specs.Prelude.{Bool, false, ◌||◌, List, [], ◌∷◌}

-- some element fails its test
unfoldable pub some_wrong : {S A : Type 0} → (S → A → Bool) → (S → A → S) → S → List A → Bool
some_wrong wrong next s [] = false
some_wrong wrong next s (x ∷ l) = wrong s x || some_wrong wrong next (next s x) l

-- the state behind the last element
unfoldable pub end_of : {S A : Type 0} → (S → A → S) → S → List A → S
end_of next s [] = s
end_of next s (x ∷ l) = end_of next (next s x) l
