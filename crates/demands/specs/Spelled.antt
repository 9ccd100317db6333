-- What the statements are written with, to the byte and to the bit: flips, characters, numbers and digits, lines, times, texts, and the energies of 02's
-- 2026-08 code by code.
use Rattle.std.specs.Prelude.{ℕ, ◌+◌, ◌-◌, ◌*◌, ◌/◌, ◌%◌, ◌^◌, ◌<◌, ◌≤◌, List, [], ◌∷◌, ◌++◌, map, ◌≡◌, pos, neg_ℤ, length, set}
use Rattle.std.specs.Int.Bits.{bit_xor}
use Rattle.std.specs.Int.Count.{ones_in}
use Rattle.base_rules.specs.Answers.{reads}
use Rattle.base_rules.specs.Lists.{at}
use Rattle.base_characters.specs.Characters.{carrier, chars}
use Rattle.base_characters.specs.Flips.{Place, Places, flips}
use Rattle.base_digits.specs.Digits.{digits_of}
use Rattle.base_numbers.specs.Numbers.{number}
use Rattle.base_numbers.specs.TwosComplement.{binary_of}
use Rattle.text_filling.specs.Decimals.{decimal}
use Rattle.text_filling.specs.Texts.{text}
use Rattle.serial_marks.specs.Marks.{port_marked}
use Rattle.mbus_rules.specs.declared.Entry.{Entry}
use Rattle.mbus_rules.specs.declared.Moment.{Moment}
use Rattle.mbus_rules.specs.declared.Telegram.{Telegram}
use Rattle.mbus_rules.specs.declared.Value.{Value}
use Rattle.mbus_rules.specs.declared.Value.TheVariants.{Number, Time, Binary}
use Rattle.mbus_rules.specs.Lines.{read_line}
use Rattle.mbus_rules.specs.Moments.{moment_of}
use Rattle.mbus_rules.specs.Telegrams.{ack, read_of, enter_of, leave_of, data_of}
use Rattle.mbus_rules.specs.Writing.{line_of}
use Rattle.run_calendar.specs.Days.{days_before, interval}
use Rattle.cjt_energy.specs.Energies.{entry_for}

-- ---- flips

-- A flip turns over one bit of one character: bit 0 is 1, bit 8 is 256.
abbrev pub OneBitTurned : Type 0
OneBitTurned =
    ((s : List ℕ) → flips [] s ≡ s)
    × ((s : List ℕ) (p : Place) (ps : List Place)
    → flips (p ∷ ps) s ≡ set (flips ps s) p.character (bit_xor (at (flips ps s) p.character) (2 ^ p.bit)))

-- the line has such a place
abbrev pub InsideOf : List ℕ → Place → Type 0
InsideOf s p = (p.character < length s) × (p.bit < 9)

-- another character, or another bit
abbrev pub Differ : Place → Place → Type 0
Differ p q = p.character ≡ q.character → p.bit ≡ q.bit → ⊥

-- Every one, two or three different places within a line are such that demand 3 speaks of.
abbrev pub EveryPlace : Type 0
EveryPlace =
    (s : List ℕ) (p q r : Place) → InsideOf s p → InsideOf s q → InsideOf s r → Differ p q → Differ p r → Differ q r
    → Places s (p ∷ []) × Places s (p ∷ q ∷ []) × Places s (p ∷ q ∷ r ∷ [])

-- ---- characters, numbers and digits

-- A byte is carried by the character whose low eight bits it is and whose nine bits have even parity.
abbrev pub CarriedEven : Type 0
CarriedEven = (b : ℕ) → b < 256 → (carrier b < 512) × (carrier b % 256 ≡ b) × (ones_in 9 (carrier b) % 2 ≡ 0)

-- A serial port passes on a byte of odd parity behind FF 00, FF as FF FF, and each other as itself.
abbrev pub PortMarks : Type 0
PortMarks =
    (c : ℕ)
    → (ones_in 9 c % 2 ≡ 1 → port_marked c ≡ 0xFF ∷ 0x00 ∷ c % 256 ∷ [])
    × ((ones_in 9 c % 2 ≡ 1 → ⊥) → c % 256 ≡ 0xFF → port_marked c ≡ 0xFF ∷ 0xFF ∷ [])
    × ((ones_in 9 c % 2 ≡ 1 → ⊥) → (c % 256 ≡ 0xFF → ⊥) → port_marked c ≡ c % 256 ∷ [])

-- Low byte first: two bytes a character, numbers, packed digits, two's complement.
abbrev pub NumbersLowFirst : Type 0
NumbersLowFirst =
    ((low high : ℕ) (b : List ℕ) → chars (low ∷ high ∷ b) ≡ (low + 256 * high) ∷ chars b)
    × (chars [] ≡ [])
    × ((b : ℕ) (s : List ℕ) → number (b ∷ s) ≡ b + 256 * number s)
    × (number [] ≡ 0)
    × ((b : ℕ) (s : List ℕ) → digits_of (b ∷ s) ≡ 100 * digits_of s + (10 * (b / 16) + b % 16))
    × (digits_of [] ≡ 0)
    × ((b : List ℕ) → 2 * number b < 256 ^ length b → binary_of b ≡ pos (number b))
    × ((b : List ℕ) → 256 ^ length b ≤ 2 * number b → binary_of b ≡ neg_ℤ (pos (256 ^ length b - number b)))

-- ---- lines

-- 01's table: ack, read, enter and leave.
abbrev pub CommandsSpelled : Type 0
CommandsSpelled =
    (line_of ack ≡ map carrier (0xE5 ∷ []))
    × ((a : ℕ) → line_of (read_of a) ≡ map carrier (0x10 ∷ 0x5B ∷ a ∷ (0x5B + a) % 256 ∷ 0x16 ∷ []))
    × ((a s : ℕ)
    → line_of (enter_of a s) ≡ map carrier (0x68 ∷ 0x04 ∷ 0x04 ∷ 0x68 ∷ 0x53 ∷ a ∷ 0x50 ∷ s ∷ (0x53 + a + 0x50 + s) % 256 ∷ 0x16 ∷ []))
    × ((a : ℕ)
    → line_of (leave_of a) ≡ map carrier (0x68 ∷ 0x04 ∷ 0x04 ∷ 0x68 ∷ 0x53 ∷ a ∷ 0x50 ∷ 0x00 ∷ (0x53 + a + 0x50) % 256 ∷ 0x16 ∷ []))

-- Time, 6 bytes, with the weekday of 2026-03.
abbrev pub TimeSpelled : Type 0
TimeSpelled =
    (b₁ b₂ b₃ b₄ b₅ b₆ : ℕ)
    → moment_of (b₁ ∷ b₂ ∷ b₃ ∷ b₄ ∷ b₅ ∷ b₆ ∷ [])
    ≡ record {
      year = b₅ / 16 * 8 + b₄ / 32;
      month = b₅ % 16;
      day = b₄ % 32;
      hour = b₃ % 32;
      minute = b₂ % 64;
      second = b₁ % 64;
      weekday = b₃ / 32;
    }

abbrev entry : ℕ → ℕ → Value → Entry
entry structure unit value = record { structure = structure; unit = unit; value = value }

-- Data in which every number is different: address 2B, meter 87654321, maker STI, version 21, type 0C, access 37, status 66, and seven entries.
abbrev pub spelled_data : Telegram
spelled_data =
    data_of 0x2B (record { number = 87654321; maker = 0x4E89; version = 21; meter_type = 0x0C; access = 37; status = 66 })
    (entry 0x06 0x6D (Time (record { year = 26; month = 11; day = 16; hour = 17; minute = 18; second = 19; weekday = 1 }))
    ∷ entry 0x0E 0x0B (Number (record { count = pos 123456789012 }))
    ∷ entry 0x04 0x13 (Binary (record { count = pos 0x11223344 }))
    ∷ entry 0x0A 0x2C (Number (record { count = pos 9753 }))
    ∷ entry 0x02 0x3E (Binary (record { count = neg_ℤ (pos 1234) }))
    ∷ entry 0x03 0x5A (Binary (record { count = pos 0x445566 }))
    ∷ entry 0x0B 0x5D (Number (record { count = neg_ℤ (pos 26408) }))
    ∷ [])

abbrev pub spelled_bytes : List ℕ
spelled_bytes =
    0x68 ∷ 0x37 ∷ 0x37 ∷ 0x68 ∷ 0x08 ∷ 0x2B ∷ 0x72
    ∷ 0x21 ∷ 0x43 ∷ 0x65 ∷ 0x87 ∷ 0x89 ∷ 0x4E ∷ 0x15 ∷ 0x0C ∷ 0x25 ∷ 0x42 ∷ 0x00 ∷ 0x00
    ∷ 0x06 ∷ 0x6D ∷ 0x13 ∷ 0x12 ∷ 0x31 ∷ 0x50 ∷ 0x3B ∷ 0x00
    ∷ 0x0E ∷ 0x0B ∷ 0x12 ∷ 0x90 ∷ 0x78 ∷ 0x56 ∷ 0x34 ∷ 0x12
    ∷ 0x04 ∷ 0x13 ∷ 0x44 ∷ 0x33 ∷ 0x22 ∷ 0x11
    ∷ 0x0A ∷ 0x2C ∷ 0x53 ∷ 0x97
    ∷ 0x02 ∷ 0x3E ∷ 0x2E ∷ 0xFB
    ∷ 0x03 ∷ 0x5A ∷ 0x66 ∷ 0x55 ∷ 0x44
    ∷ 0x0B ∷ 0x5D ∷ 0x08 ∷ 0x64 ∷ 0xF2
    ∷ 0xE3 ∷ 0x16 ∷ []

-- It is written and read so.
abbrev pub DataSpelled : Type 0
DataSpelled = (line_of spelled_data ≡ map carrier spelled_bytes) × (read_line (map carrier spelled_bytes) ≡ reads spelled_data)

-- ---- times and energies

-- the milliseconds from the beginning of 2000 to a point in time
abbrev pub milliseconds : Moment → ℕ
milliseconds m = 1000 * (60 * (60 * (24 * days_before m.year m.month m.day + m.hour) + m.minute) + m.second)

-- The interval of two points in time is their difference in milliseconds, and 0 where the second is not later.
abbrev pub IntervalIs : Type 0
IntervalIs = (first last : Moment) → interval first last ≡ milliseconds last - milliseconds first

abbrev energy : ℕ → ℕ → Entry
energy unit n = entry 0x0E unit (Number (record { count = pos n }))

-- 123456 hundredths of each of the nine units: Wh, kWh, MWh and MWh × 100 become Wh, and J (of which whole ones), kJ, MJ, GJ and GJ × 100 become J.
abbrev pub EveryCodeTurned : Type 0
EveryCodeTurned =
    (entry_for 123456 0x02 ≡ reads (energy 0x01 123456))
    × (entry_for 123456 0x05 ≡ reads (energy 0x04 123456))
    × (entry_for 123456 0x08 ≡ reads (energy 0x07 123456))
    × (entry_for 123456 0x0A ≡ reads (energy 0x07 12345600))
    × (entry_for 123400 0x01 ≡ reads (energy 0x08 1234))
    × (entry_for 123456 0x0B ≡ reads (energy 0x09 123456))
    × (entry_for 123456 0x0E ≡ reads (energy 0x0C 123456))
    × (entry_for 123456 0x11 ≡ reads (energy 0x0F 123456))
    × (entry_for 123456 0x13 ≡ reads (energy 0x0F 12345600))

-- ---- texts

-- A text is its characters in ASCII: every one that a listing has.
abbrev pub TextSpelled : Type 0
TextSpelled =
    text "acdefhiklnoprstuvw 0123456789,\n"
    ≡ 97 ∷ 99 ∷ 100 ∷ 101 ∷ 102 ∷ 104 ∷ 105 ∷ 107 ∷ 108 ∷ 110 ∷ 111 ∷ 112 ∷ 114 ∷ 115 ∷ 116 ∷ 117 ∷ 118 ∷ 119 ∷ 32
    ∷ 48 ∷ 49 ∷ 50 ∷ 51 ∷ 52 ∷ 53 ∷ 54 ∷ 55 ∷ 56 ∷ 57 ∷ 44 ∷ 10 ∷ []

-- A number in decimal is its digits, the highest first, and 0 is one digit.
abbrev pub DecimalSpelled : Type 0
DecimalSpelled =
    ((n : ℕ) → n < 10 → decimal n ≡ (48 + n) ∷ []) × ((n : ℕ) → 10 ≤ n → decimal n ≡ decimal (n / 10) ++ ((48 + n % 10) ∷ []))
