-- From a serial port: what is made of the bytes that a port passes on, marked as termios(3) says.
use Rattle.std.specs.Prelude.{ℕ, suc, ◌+◌, ◌≤◌, false, List, [], ◌∷◌, ◌++◌, ◌⊎◌, ◌≡◌, eqb, ltb, length, take, drop}
use Rattle.base_rules.specs.Lists.{any}
use Rattle.base_characters.specs.Characters.{over, odd}
use Rattle.base_rules.specs.Bytes.{Bytes}
use Rattle.mbus_rules.specs.Lines.{Accepted}
use Rattle.base_lent.specs.Pieces.{pieces}
use Rattle.serial_marks.specs.Marks.{port_marked, Beginning}
use Rattle.serial_marks.specs.Unmarking.{unmarked_in}
use Rattle.serial_marks.specs.Pieces.{Piece, received, by_pieces}

-- Every list of characters 0 to 511, marked by the port and unmarked with room enough, is given back, the parity bits among it.
abbrev pub CharactersBack : Type 0
CharactersBack =
    (cs : List ℕ) → any over cs ≡ false → (k : ℕ)
    → unmarked_in (length cs + k) (pieces port_marked cs) ≡ record { used = length (pieces port_marked cs); characters = cs }

-- And in any pieces, the marks cut anywhere, where each call has room for as many characters as there are bytes in all: nothing is left.
abbrev pub PiecesBack : Type 0
PiecesBack =
    (cs : List ℕ) → any over cs ≡ false → (ps : List Piece) → received ps ≡ pieces port_marked cs
    → any (λ (p : Piece). ltb p.room (length (pieces port_marked cs))) ps ≡ false → by_pieces [] ps ≡ record { characters = cs; left = [] }

-- Whatever room each call has, nothing is lost and nothing comes twice: what was heard, and what is still made of what is left, is the list.
abbrev pub NothingIsLost : Type 0
NothingIsLost =
    (cs : List ℕ) → any over cs ≡ false → (ps : List Piece) → received ps ≡ pieces port_marked cs
    → (by_pieces [] ps).characters ++ (unmarked_in (length cs) (by_pieces [] ps).left).characters ≡ cs

-- Of any bytes at all: never more is used than there is, nor made than there is room for;
abbrev pub NeverTooMuch : Type 0
NeverTooMuch = (room : ℕ) (bytes : List ℕ) → ((unmarked_in room bytes).used ≤ length bytes) × (length (unmarked_in room bytes).characters ≤ room)

-- what is left unused is what there was no room for, or the beginning of a mark and nothing else;
abbrev pub WhatIsLeft : Type 0
WhatIsLeft =
    (room : ℕ) (bytes : List ℕ)
    → (length (unmarked_in room bytes).characters ≡ room) ⊎ Beginning (drop (unmarked_in room bytes).used bytes)

-- and bytes that come behind do not change what was made: two calls make what one makes.
abbrev pub TwoCallsAsOne : Type 0
TwoCallsAsOne =
    (room k : ℕ) (bytes more : List ℕ)
    → unmarked_in (length (unmarked_in room bytes).characters + k) (bytes ++ more)
    ≡ record {
      used = (unmarked_in room bytes).used + (unmarked_in k (drop (unmarked_in room bytes).used bytes ++ more)).used;
      characters = (unmarked_in room bytes).characters ++ (unmarked_in k (drop (unmarked_in room bytes).used bytes ++ more)).characters;
    }

-- Every character that is made of bytes is 0 to 511.
abbrev pub MadeAreCharacters : Type 0
MadeAreCharacters = (room : ℕ) (bytes : List ℕ) → Bytes bytes → any over (unmarked_in room bytes).characters ≡ false

-- What is accepted as a line was received with right parity, all of it: the bytes used are the marked bytes of its characters, and an odd one's
-- begin by FF 00.
abbrev pub AcceptedWasRight : Type 0
AcceptedWasRight =
    (room : ℕ) (bytes : List ℕ) → Bytes bytes → Accepted (unmarked_in room bytes).characters
    → (any odd (unmarked_in room bytes).characters ≡ false) × (take (unmarked_in room bytes).used bytes ≡ pieces port_marked (unmarked_in room bytes).characters)

abbrev pub StrayFf : Type 0
StrayFf =
    (k b : ℕ) (s : List ℕ) → eqb b 0xFF ≡ false → eqb b 0x00 ≡ false
    → unmarked_in (suc k) (0xFF ∷ b ∷ s) ≡ record { used = 1 + (unmarked_in k (b ∷ s)).used; characters = 0x1FF ∷ (unmarked_in k (b ∷ s)).characters }

-- An ack as it should be and with wrong parity; FF with right and with wrong parity; a break; FF before another byte; an unfinished mark.
abbrev pub SerialValues : Type 0
SerialValues =
    ((unmarked_in 9 (0xE5 ∷ [])).characters ≡ 0x1E5 ∷ [])
    × ((unmarked_in 9 (0xFF ∷ 0x00 ∷ 0xE5 ∷ [])).characters ≡ 0x0E5 ∷ [])
    × ((unmarked_in 9 (0xFF ∷ 0xFF ∷ [])).characters ≡ 0x0FF ∷ [])
    × ((unmarked_in 9 (0xFF ∷ 0x00 ∷ 0xFF ∷ [])).characters ≡ 0x1FF ∷ [])
    × ((unmarked_in 9 (0xFF ∷ 0x00 ∷ 0x00 ∷ [])).characters ≡ 0x100 ∷ [])
    × ((unmarked_in 9 (0xFF ∷ 0x41 ∷ [])).characters ≡ 0x1FF ∷ 0x041 ∷ [])
    × (unmarked_in 9 (0x41 ∷ 0xFF ∷ 0x00 ∷ []) ≡ record { used = 1; characters = 0x041 ∷ [] })
