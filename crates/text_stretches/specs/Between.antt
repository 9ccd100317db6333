-- A number between two texts, and two between three.
use Rattle.std.specs.Prelude.{ℕ, List, ◌++◌}
use Rattle.text_filling.specs.Decimals.{decimal}

abbrev pub between : List ℕ → ℕ → List ℕ → List ℕ
between before n after = before ++ (decimal n ++ after)

abbrev pub pair_between : List ℕ → ℕ → List ℕ → ℕ → List ℕ → List ℕ
pair_between before m middle n after = before ++ (decimal m ++ (middle ++ (decimal n ++ after)))
