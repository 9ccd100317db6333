-- A text with holes.
use Rattle.std.specs.Prelude.{ℕ, cond, List, [], ◌∷◌, ◌++◌, eqb, get_or, drop}
use Rattle.text_filling.specs.Decimals.{decimal}

-- Each % (37) stands for the next number in decimal, 0 past the last one, and everything else for itself.
unfoldable pub filled_with : List ℕ → List ℕ → List ℕ
filled_with [] numbers = []
filled_with (c ∷ text) numbers = cond (eqb c 37) (decimal (get_or numbers 0 0) ++ filled_with text (drop 1 numbers)) (c ∷ filled_with text numbers)
