-- How a line closes, of M-Bus and of CJ/T 188: with the sum of its bytes, modulo 256, and 16.
use Rattle.std.specs.Prelude.{ℕ, ◌%◌, List, [], ◌∷◌, ◌++◌}
use Rattle.base_rules.specs.Lists.{total}

-- the sum of the bytes from C up to before CS, and the end
abbrev pub closed : List ℕ → List ℕ
closed f = f ++ (total f % 256 ∷ 0x16 ∷ [])
