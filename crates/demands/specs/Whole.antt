-- When a line is whole: how many characters it has, by the first of them. So a host reads no character too many and waits for none.
use Rattle.std.specs.Prelude.{ℕ, ◌≤◌, List, [], ◌∷◌, ◌++◌, map, ◌≢◌, ◌≡◌, length}
use Rattle.base_rules.specs.Lists.{at}
use Rattle.base_characters.specs.Characters.{byte_of}
use Rattle.mbus_rules.specs.Lines.{Accepted}
use Rattle.mbus_length.specs.declared.HowLong.TheVariants.{Known, NotYet, NoLine}
use Rattle.mbus_length.specs.Lengths.{line_length, Agree}

-- Every accepted line that begins with these characters, or that they begin with, has the length that is told.
abbrev pub LengthIsRight : Type 0
LengthIsRight = (first line : List ℕ) (n : ℕ) → line_length first ≡ Known n → Agree first line → Accepted line → length line ≡ n

-- Where none is told to begin so, there is none.
abbrev pub NoneBeginsSo : Type 0
NoneBeginsSo = (first line : List ℕ) → line_length first ≡ NoLine → Agree first line → ¬ Accepted line

-- After two characters it is told, and after one if that is not 68.
abbrev pub ToldAfterTwo : Type 0
ToldAfterTwo = (first : List ℕ) → 2 ≤ length first → line_length first ≢ NotYet

abbrev pub ToldAfterOne : Type 0
ToldAfterOne = (first : List ℕ) → 1 ≤ length first → at (map byte_of first) 0 ≢ 0x68 → line_length first ≢ NotYet

-- So for every accepted line its length is told after two of its characters, and stays so whatever comes behind it.
abbrev pub LineIsKnown : Type 0
LineIsKnown = (first line : List ℕ) → Accepted line → Agree first line → 2 ≤ length first → line_length first ≡ Known (length line)

-- ---- more characters

module _ (first more : List ℕ) where
  -- A length that is known does not become another,
  abbrev pub LengthStays : Type 0
  LengthStays = (m n : ℕ) → line_length first ≡ Known m → line_length (first ++ more) ≡ Known n → m ≡ n

  -- stays what it is once all of the line is there,
  abbrev pub LengthPastTheEnd : Type 0
  LengthPastTheEnd = (n : ℕ) → line_length first ≡ Known n → n ≤ length first → line_length (first ++ more) ≡ Known n

  -- and where no line begins none does with more.
  abbrev pub NoneStays : Type 0
  NoneStays = line_length first ≡ NoLine → line_length (first ++ more) ≡ NoLine

-- An ack, a read, a long line by its second character; odd parity, a third byte that differs, a fourth that is not 68, noise.
abbrev pub LengthValues : Type 0
LengthValues =
    (line_length [] ≡ NotYet)
    × (line_length (0x1E5 ∷ []) ≡ Known 1)
    × (line_length (0x110 ∷ []) ≡ Known 5)
    × (line_length (0x168 ∷ []) ≡ NotYet)
    × (line_length (0x168 ∷ 0x004 ∷ []) ≡ NoLine)
    × (line_length (0x168 ∷ 0x104 ∷ []) ≡ Known 10)
    × (line_length (0x168 ∷ 0x104 ∷ 0x005 ∷ []) ≡ NoLine)
    × (line_length (0x168 ∷ 0x104 ∷ 0x104 ∷ 0x1E5 ∷ []) ≡ NoLine)
    × (line_length (0x1E5 ∷ 0x0E5 ∷ 0xFFFF ∷ []) ≡ Known 1)
    × (line_length (0x000 ∷ []) ≡ NoLine)
