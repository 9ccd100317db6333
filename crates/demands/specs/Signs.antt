-- 02, 2026-07: minus signs in packed digits. F in the highest place means minus, the remaining digits are the size.
use Rattle.std.specs.Prelude.{ℕ, true, false, ◌||◌, List, [], ◌∷◌, ◌≡◌, eqb, ℤ, pos, negsuc, neg_ℤ, length, take}
use Rattle.mbus_rules.specs.declared.Value.TheVariants.{Number}
use Rattle.mbus_rules.specs.declared.Entry.{Entry}
use Rattle.mbus_rules.specs.declared.Telegram.{Telegram}
use Rattle.base_rules.specs.Answers.{reads}
use Rattle.base_rules.specs.Bytes.{Bytes}
use Rattle.base_digits.specs.Digits.{over_nine, digits_of}
use Rattle.mbus_rules.specs.Entries.{may_fall, wrong_number}
use Rattle.mbus_rules.specs.Headers.{wrong_header}
use Rattle.mbus_rules.specs.Lines.{read_line}
use Rattle.base_rules.specs.Lists.{any}
use Rattle.mbus_rules.specs.Quantities.{quantity_of, is_time, is_binary, flow, inlet, outlet}
use Rattle.mbus_rules.specs.Signs.{minus, size_bytes, signed_of, wrong_signed, signed_bytes, fits_signed}
use Rattle.base_numbers.specs.TwosComplement.{below_zero}
use Rattle.mbus_rules.specs.Telegrams.{data_of}
use Rattle.mbus_rules.specs.Writing.{wrong_value, line_of}
use Rattle.demands.specs.Values.{packed_entry, example_header, example_time}

-- ---- an inlet of -1.50 °C

abbrev pub signed_entry : ℕ → ℕ → ℤ → Entry
signed_entry st u z = record { structure = st; unit = u; value = Number (record { count = z }) }

-- data with an inlet of -1.50 °C in a structure
abbrev pub chilled : ℕ → Telegram
chilled st =
    data_of 0 (example_header 3 0)
    (packed_entry 0x0C 0x03 1 ∷ packed_entry 0x0C 0x11 1 ∷ signed_entry st 0x59 (neg_ℤ (pos 150)) ∷ packed_entry 0x0A 0x5D 300 ∷ example_time 0 ∷ [])

-- its bytes in each width: the sign takes the place of the highest digit
abbrev pub MinusOneFifty : Type 0
MinusOneFifty =
    (signed_bytes 2 (neg_ℤ (pos 150)) ≡ 0x50 ∷ 0xF1 ∷ []) × (signed_bytes 3 (neg_ℤ (pos 150)) ≡ 0x50 ∷ 0x01 ∷ 0xF0 ∷ [])
    × (signed_bytes 4 (neg_ℤ (pos 150)) ≡ 0x50 ∷ 0x01 ∷ 0x00 ∷ 0xF0 ∷ [])
    × (signed_bytes 6 (neg_ℤ (pos 150)) ≡ 0x50 ∷ 0x01 ∷ 0x00 ∷ 0x00 ∷ 0x00 ∷ 0xF0 ∷ [])

-- and a line that has them is read as such
abbrev pub ChilledIsRead : Type 0
ChilledIsRead =
    (read_line (line_of (chilled 0x0A)) ≡ reads (chilled 0x0A)) × (read_line (line_of (chilled 0x0B)) ≡ reads (chilled 0x0B))
    × (read_line (line_of (chilled 0x0C)) ≡ reads (chilled 0x0C)) × (read_line (line_of (chilled 0x0E)) ≡ reads (chilled 0x0E))

-- ---- what a sign says, over every number of bytes

-- a number is read from its bytes, and no other bytes of that width are read as it
abbrev pub OneForm : Type 0
OneForm = (a b : List ℕ) → Bytes a → Bytes b → wrong_signed a ≡ false → wrong_signed b ≡ false → length a ≡ length b → signed_of a ≡ signed_of b → a ≡ b

-- every number whose size leaves room for its sign has such bytes
abbrev pub EveryNumber : Type 0
EveryNumber =
    (w : ℕ) (z : ℤ) → fits_signed w z ≡ true
    → (signed_of (signed_bytes w z) ≡ z) × (wrong_signed (signed_bytes w z) ≡ false) × (length (signed_bytes w z) ≡ w) × (minus (signed_bytes w z) ≡ below_zero z)

-- the largest and the smallest of each width, and what is next to them
abbrev pub Bounds : Type 0
Bounds =
    (fits_signed 2 (pos 9999) ≡ true) × (fits_signed 2 (pos 10000) ≡ false) × (fits_signed 2 (neg_ℤ (pos 999)) ≡ true)
    × (fits_signed 2 (neg_ℤ (pos 1000)) ≡ false) × (fits_signed 3 (neg_ℤ (pos 99999)) ≡ true) × (fits_signed 3 (neg_ℤ (pos 100000)) ≡ false)
    × (fits_signed 4 (neg_ℤ (pos 9999999)) ≡ true) × (fits_signed 4 (neg_ℤ (pos 10000000)) ≡ false) × (fits_signed 6 (neg_ℤ (pos 99999999999)) ≡ true)
    × (fits_signed 6 (neg_ℤ (pos 100000000000)) ≡ false)

-- ---- where a sign is allowed

-- minus zero is refused whatever the quantity
abbrev pub MinusZero : Type 0
MinusZero =
    (st unit : ℕ) (b : List ℕ) → is_binary st ≡ false → is_time unit ≡ false → minus b ≡ true → digits_of (size_bytes b) ≡ 0
    → wrong_number st unit b ≡ true

-- a sign that is accepted stands at inlet, outlet or flow, ..
abbrev pub SignAllowed : Type 0
SignAllowed =
    (st unit : ℕ) (b : List ℕ) → is_binary st ≡ false → is_time unit ≡ false → wrong_number st unit b ≡ false → minus b ≡ true
    → (eqb (quantity_of unit) inlet || eqb (quantity_of unit) outlet || eqb (quantity_of unit) flow) ≡ true

-- .. and there it is
abbrev pub SignRead : Type 0
SignRead = (st unit : ℕ) (b : List ℕ) → is_binary st ≡ false → may_fall unit ≡ true → wrong_signed b ≡ false → wrong_number st unit b ≡ false

abbrev pub LowerPlace : Type 0
LowerPlace = (st unit : ℕ) (b : List ℕ) → is_binary st ≡ false → is_time unit ≡ false → any over_nine (size_bytes b) ≡ true → wrong_number st unit b ≡ true

abbrev pub HighestPlace : Type 0
HighestPlace =
    (st unit : ℕ) (b : List ℕ) → is_binary st ≡ false → is_time unit ≡ false → minus b ≡ false → any over_nine b ≡ true
    → wrong_number st unit b ≡ true

-- in a meter number F is 10, as any digit over 9
abbrev pub NumberWithoutSign : Type 0
NumberWithoutSign = (part : List ℕ) → any over_nine (take 4 part) ≡ true → wrong_header part ≡ true

-- a number below zero cannot be written for any other quantity
abbrev pub NotWritten : Type 0
NotWritten = (st unit n : ℕ) → may_fall unit ≡ false → wrong_value st unit (Number (record { count = negsuc n })) ≡ true
