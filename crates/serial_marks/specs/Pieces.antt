-- A host that reads from a port piece by piece, each with a room of its own for characters, and keeps what is left in front of the next.
use Rattle.std.specs.Prelude.{ℕ, List, [], ◌∷◌, ◌++◌, drop}
use Rattle.base_lent.specs.Pieces.{pieces}
use Rattle.serial_marks.specs.Unmarking.{unmarked_in}

-- what one call of read(2) gives, and for how many characters there is room
pub record Piece : Type 0 where
  pub bytes : List ℕ
  pub room : ℕ

-- what the host has then: all characters so far, and the bytes that are left
pub record Hearing : Type 0 where
  pub characters : List ℕ
  pub left : List ℕ

-- the bytes of all pieces, one behind the other
abbrev pub received : List Piece → List ℕ
received ps = pieces (λ (p : Piece). p.bytes) ps

unfoldable pub by_pieces : List ℕ → List Piece → Hearing
by_pieces left [] = record { characters = []; left = left }
by_pieces left (p ∷ ps) =
    let u = unmarked_in p.room (left ++ p.bytes) in
    let rest = by_pieces (drop u.used (left ++ p.bytes)) ps in
    record { characters = u.characters ++ rest.characters; left = rest.left }
