-- 02, 2026-06: binary-coded values, two's complement, low byte first; and joules.
use Rattle.std.specs.Prelude.{ℕ, ◌+◌, ◌<◌, true, false, not, ◌&&◌, List, [], ◌∷◌, map, ◌≡◌, ℤ, pos, neg_ℤ, length}
use Rattle.mbus_rules.specs.declared.Decimal.{Decimal}
use Rattle.mbus_rules.specs.declared.Whole.{Whole}
use Rattle.mbus_rules.specs.declared.Value.TheVariants.{Number, Binary}
use Rattle.mbus_rules.specs.declared.Entry.{Entry}
use Rattle.mbus_rules.specs.declared.Telegram.{Telegram}
use Rattle.base_rules.specs.Answers.{reads, refusal}
use Rattle.base_rules.specs.Bytes.{Bytes}
use Rattle.base_characters.specs.Characters.{byte_of}
use Rattle.base_numbers.specs.TwosComplement.{negative, binary_of, binary_bytes, fits_binary, below_zero}
use Rattle.mbus_rules.specs.Entries.{may_fall, wrong_number}
use Rattle.mbus_rules.specs.Lines.{read_line}
use Rattle.base_rules.specs.Lists.{at}
use Rattle.mbus_rules.specs.Quantities.{quantity_of, power_of, in_joules, paired, is_time, is_binary, energy}
use Rattle.mbus_rules.specs.Telegrams.{data_of}
use Rattle.mbus_rules.specs.Writing.{used_entry, wrong_value, line_of}
use Rattle.demands.specs.Values.{Hold, packed_entry, example_header, example_time}

-- ---- two's complement, over every number of bytes

-- bytes of one width that are read as the same number are the same
abbrev pub OneBinaryForm : Type 0
OneBinaryForm = (a b : List ℕ) → Bytes a → Bytes b → length a ≡ length b → binary_of a ≡ binary_of b → a ≡ b

-- a number that fits is read from its bytes, and the highest bit says that it is negative
abbrev pub EveryBinaryNumber : Type 0
EveryBinaryNumber =
    (w : ℕ) (z : ℤ) → fits_binary w z ≡ true
    → (binary_of (binary_bytes w z) ≡ z) × (length (binary_bytes w z) ≡ w) × (negative (binary_bytes w z) ≡ below_zero z)

-- the smallest and the largest of each width, and what is next to them; eight bytes fill all of 64 bits
abbrev pub Bounds : ℕ → ℕ → Type 0
Bounds w half =
    (fits_binary w (neg_ℤ (pos half)) ≡ true) × (fits_binary w (neg_ℤ (pos (half + 1))) ≡ false) × (binary_of (binary_bytes w (neg_ℤ (pos half))) ≡ neg_ℤ (pos half))
    × (fits_binary w (pos half) ≡ false)

abbrev pub BinaryBounds : Type 0
BinaryBounds = Hold (Bounds 1 128 ∷ Bounds 2 32768 ∷ Bounds 3 8388608 ∷ Bounds 4 2147483648 ∷ Bounds 6 140737488355328 ∷ Bounds 8 9223372036854775808 ∷ [])

-- -1 in each width, and -150 in three bytes: the sign is that of the highest byte, which comes last
abbrev pub LowByteFirst : Type 0
LowByteFirst =
    (binary_bytes 1 (neg_ℤ (pos 1)) ≡ 0xFF ∷ []) × (binary_bytes 3 (neg_ℤ (pos 150)) ≡ 0x6A ∷ 0xFF ∷ 0xFF ∷ [])
    × (binary_of (0x6A ∷ 0xFF ∷ 0xFF ∷ []) ≡ neg_ℤ (pos 150)) × (binary_of (0xFF ∷ 0xFF ∷ 0x6A ∷ []) ≡ pos 7012351)

-- ---- lines

abbrev pub binary_entry : ℕ → ℕ → ℤ → Entry
binary_entry st u z = record { structure = st; unit = u; value = Binary (record { count = z }) }

-- the five required quantities, one byte each; and all seven, eight bytes each
abbrev pub fewest : Telegram
fewest =
    data_of 0 (example_header 3 0)
    (binary_entry 0x01 0x03 (pos 127) ∷ binary_entry 0x01 0x11 (pos 0) ∷ binary_entry 0x01 0x59 (neg_ℤ (pos 128)) ∷ binary_entry 0x01 0x5D (neg_ℤ (pos 1))
    ∷ example_time 0 ∷ [])

abbrev pub most : Telegram
most =
    data_of 0 (example_header 3 0) (
    binary_entry 0x07 0x0B (pos 9223372036854775807) ∷ binary_entry 0x07 0x11 (pos 0) ∷ binary_entry 0x07 0x59 (neg_ℤ (pos 9223372036854775808))
    ∷ binary_entry 0x07 0x5D (neg_ℤ (pos 1)) ∷ binary_entry 0x07 0x2D (pos 1) ∷ binary_entry 0x07 0x3B (neg_ℤ (pos 150)) ∷ example_time 0 ∷ []
    )

-- L = 35 and L = 83 are reached, and 89 characters
abbrev pub ShortestData : Type 0
ShortestData = (read_line (line_of fewest) ≡ reads fewest) × (at (map byte_of (line_of fewest)) 1 ≡ 35)

abbrev pub LongestData : Type 0
LongestData = (read_line (line_of most) ≡ reads most) × (at (map byte_of (line_of most)) 1 ≡ 83) × (length (line_of most) ≡ 89)

-- Wh and J in one telegram repeat a quantity
abbrev pub two_energies : Telegram
two_energies =
    data_of 0 (example_header 3 0)
    (packed_entry 0x0C 0x03 1 ∷ packed_entry 0x0C 0x0B 1 ∷ packed_entry 0x0C 0x11 1 ∷ packed_entry 0x0A 0x59 300 ∷ packed_entry 0x0A 0x5D 200 ∷ example_time 0 ∷ [])

abbrev pub EnergyTwice : Type 0
EnergyTwice = read_line (line_of two_energies) ≡ refusal 14

-- ---- what goes with what

-- 6D takes only 06, which goes with a measured unit too; 05, 08, 09, 0D and 0F go with no unit
abbrev pub TimeTakes06 : Type 0
TimeTakes06 = (st : ℕ) → paired st 0x6D ≡ true → st ≡ 0x06

abbrev pub no_structure : List (Type 0)
no_structure =
    ((u : ℕ) → paired 0x05 u ≡ false) ∷ ((u : ℕ) → paired 0x08 u ≡ false) ∷ ((u : ℕ) → paired 0x09 u ≡ false) ∷ ((u : ℕ) → paired 0x0D u ≡ false)
    ∷ ((u : ℕ) → paired 0x0F u ≡ false) ∷ []

abbrev pub NoStructure : Type 0
NoStructure = Hold no_structure

abbrev pub Measured06 : Type 0
Measured06 = paired 0x06 0x59 ≡ true

-- a negative value is 12 exactly where none is allowed
abbrev pub NegativeRefused : Type 0
NegativeRefused = (st unit : ℕ) (b : List ℕ) → is_time unit ≡ false → is_binary st ≡ true → wrong_number st unit b ≡ (negative b && not (may_fall unit))

-- ---- joules

-- unit bytes 08 to 0F: the quantity energy, 10^n J; 00 to 07 are Wh
abbrev pub JoulesAreEnergy : Type 0
JoulesAreEnergy = (n : ℕ) → n < 8 → (in_joules (8 + n) ≡ true) × (in_joules n ≡ false) × (quantity_of (8 + n) ≡ energy) × (power_of (8 + n) ≡ pos n)

-- ---- writing

-- a value whose sort disagrees with its structure is 20
abbrev pub DigitsAsBinary : Type 0
DigitsAsBinary = (st unit : ℕ) (d : Decimal) → is_binary st ≡ true → wrong_value st unit (Number d) ≡ true

abbrev pub BinaryAsDigits : Type 0
BinaryAsDigits = (st unit : ℕ) (w : Whole) → is_binary st ≡ false → wrong_value st unit (Binary w) ≡ true

-- and so is binary 0 in a place past the count, where digits 0 stand
abbrev pub BinaryPlaceIsUsed : Type 0
BinaryPlaceIsUsed = (z : ℤ) → used_entry (binary_entry 0 0 z) ≡ true
