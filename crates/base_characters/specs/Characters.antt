-- 01, "Characters and the line clock".
use Rattle.std.specs.Prelude.{ℕ, ◌+◌, ◌*◌, ◌%◌, Bool, List, [], ◌∷◌, ◌==◌, nat_lt}
use Rattle.std.specs.Int.Count.{ones_in}

-- A character is a number 0 to 511.
abbrev pub over : ℕ → Bool
over c = nat_lt 511 c

-- The low eight bits are the byte.
abbrev pub byte_of : ℕ → ℕ
byte_of c = c % 256

-- Parity is even over all nine bits, the parity bit received among them: this is the test that it is odd.
unfoldable pub odd : ℕ → Bool
odd c = ones_in 9 c % 2 == 1

-- The character that carries a byte: bit 8 makes the parity even.
unfoldable pub carrier : ℕ → ℕ
carrier b = 256 * (ones_in 8 b % 2) + b

-- Two bytes per character, low byte first.
unfoldable pub chars : List ℕ → List ℕ
chars [] = []
chars (low ∷ []) = []
chars (low ∷ high ∷ b) = (low + 256 * high) ∷ chars b
