-- What the definitions ask of lists.
use Rattle.std.specs.Prelude.{ℕ, ◌+◌, Bool, false, ◌||◌, List, [], ◌∷◌, get_or, ◌&&◌, leb}

-- the number at a place, counted from 0; 0 past the end
abbrev pub at : List ℕ → ℕ → ℕ
at s i = get_or s i 0

-- some element passes the test
unfoldable pub any : {A : Type 0} → (A → Bool) → List A → Bool
any test [] = false
any test (x ∷ s) = test x || any test s

-- the sum of all numbers
unfoldable pub total : List ℕ → ℕ
total [] = 0
total (x ∷ s) = x + total s

abbrev pub between : ℕ → ℕ → ℕ → Bool
between low high u = leb low u && leb u high
