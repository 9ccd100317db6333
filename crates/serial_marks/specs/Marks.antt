-- termios(3), PARMRK, with INPCK set and IGNPAR and ISTRIP clear: how a byte that was received is passed to the program.
use Rattle.std.specs.Prelude.{ℕ, cond, List, [], ◌∷◌, ◌⊎◌, ◌≡◌, eqb}
use Rattle.base_characters.specs.Characters.{byte_of, odd, carrier}
use Rattle.base_characters.specs.Flips.{flip_bit}

-- "The way erroneous bytes are marked is with two preceding bytes, \377 and \0."
-- "A valid byte \377 is passed to the program as two bytes, \377 \377." Every other byte is passed as itself.
abbrev pub port_marked : ℕ → List ℕ
port_marked c =
    cond (odd c)
    (0xFF ∷ 0x00 ∷ byte_of c ∷ [])
    (cond (eqb (byte_of c) 0xFF)
    (0xFF ∷ 0xFF ∷ [])
    (byte_of c ∷ []))

-- The character of a byte that came with wrong parity: the carrier's parity bit turned over.
unfoldable pub wronged : ℕ → ℕ
wronged b = flip_bit 8 (carrier b)

-- No more than the beginning of a mark: nothing, \377, or \377 \0.
abbrev pub Beginning : List ℕ → Type 0
Beginning s = (s ≡ []) ⊎ ((s ≡ 0xFF ∷ []) ⊎ (s ≡ 0xFF ∷ 0x00 ∷ []))
