-- Numbers in decimal.
use Rattle.std.specs.Prelude.{ℕ, zero, suc, ◌+◌, ◌/◌, ◌%◌, cond, List, [], ◌∷◌, ◌++◌, eqb}

-- the last decimal digit of a number
abbrev pub last_digit : ℕ → List ℕ
last_digit n = (48 + n % 10) ∷ []

-- the decimal digits of a number, none for 0; so many at most
unfoldable pub digits_in : ℕ → ℕ → List ℕ
digits_in zero n = []
digits_in (suc k) n = cond (eqb n 0) [] (digits_in k (n / 10) ++ last_digit n)

-- all of them: a number has no more digits than it counts
abbrev pub digits : ℕ → List ℕ
digits n = digits_in n n

-- a number in decimal; 0 has one digit too
abbrev pub decimal : ℕ → List ℕ
decimal n = digits (n / 10) ++ last_digit n
