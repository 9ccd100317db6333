-- 02, 2026-08: the refusals of a CJ/T 188 line, "lowest first after 1–3", of the line's characters and bytes; of writing one; and of an energy
-- value as an M-Bus entry.
use Rattle.std.specs.Prelude.{ℕ, suc, ◌+◌, ◌*◌, ◌-◌, ◌/◌, ◌%◌, ◌<◌, ◌≤◌, min, cond, List, [], ◌∷◌, ◌⊎◌, ◌≡◌, eqb, length, take, drop}
use Rattle.std.specs.Int.Count.{ones_in}
use Rattle.base_rules.specs.Answers.{reads}
use Rattle.base_rules.specs.Lists.{at, total}
use Rattle.base_characters.specs.Characters.{chars}
use Rattle.cjt_rules.specs.declared.CjtTelegram.{CjtTelegram}
use Rattle.cjt_rules.specs.declared.CjtTelegram.TheVariants as telegrams
use Rattle.cjt_rules.specs.CjtHost.{cjt_host_number}
use Rattle.cjt_rules.specs.CjtLines.{read_cjt_line}
use Rattle.cjt_rules.specs.CjtSizes.{CjtSized}
use Rattle.cjt_rules.specs.CjtWriting.{write_cjt_line}
use Rattle.cjt_energy.specs.Energies.{entry_for}
use Rattle.demands.specs.LineOrder.{bytes_in, OverNine}
use Rattle.demands.specs.Orders.{Table, OrderOf, NumberOrder, Some, In, only_if, NoDate}

-- ---- the line behind its FE bytes

-- how many FE bytes the list begins with
abbrev pub leading_fe : List ℕ → ℕ
leading_fe [] = 0
leading_fe (x ∷ b) = cond (eqb x 0xFE) (suc (leading_fe b)) 0

-- FE bytes in front, none to five, are skipped before the line begins.
abbrev pub behind_fe : List ℕ → List ℕ
behind_fe b = drop (min 5 (leading_fe b)) b

-- ---- when each number applies, on the bytes from 68 on: 68, type, seven address bytes, control, length, data, sum, 16

-- 80: first byte not 68, length not 03 or 2E, a count that is not the length's, or last byte not 16
abbrev pub OtherShape : List ℕ → Type 0
OtherShape f =
    (¬ (at f 0 ≡ 0x68)) ⊎ (¬ In (at f 10) (0x03 ∷ 0x2E ∷ [])) ⊎ (¬ (length f ≡ at f 10 + 13)) ⊎ (¬ (at f (length f - 1) ≡ 0x16))

-- 81: the sum, which starts at the first 68, modulo 256
abbrev pub OtherFrameSum : List ℕ → Type 0
OtherFrameSum f = ¬ (at f (length f - 2) ≡ total (take (length f - 2) f) % 256)

abbrev pub address_bytes : List ℕ → List ℕ
address_bytes f = take 7 (drop 2 f)

abbrev pub AllAA : List ℕ → Type 0
AllAA a = (i : ℕ) → i < length a → at a i ≡ 0xAA

-- 82: a type not 20–23 or 25–27, or an address byte that is not BCD where not all seven are AA in a request
abbrev pub OtherParty : List ℕ → Type 0
OtherParty f =
    (¬ (((0x20 ≤ at f 1) × (at f 1 ≤ 0x23)) ⊎ ((0x25 ≤ at f 1) × (at f 1 ≤ 0x27))))
    ⊎ (Some OverNine (address_bytes f) × (¬ ((at f 10 ≡ 0x03) × AllAA (address_bytes f))))

-- 83: data mark not 1F 90, or control not that length's: 01 with 03, 81 with 2E
abbrev pub OtherMark : List ℕ → Type 0
OtherMark f =
    (¬ (at f 11 ≡ 0x1F)) ⊎ (¬ (at f 12 ≡ 0x90))
    ⊎ (((at f 10 ≡ 0x03) × (¬ (at f 9 ≡ 0x01))) ⊎ ((at f 10 ≡ 0x2E) × (¬ (at f 9 ≡ 0x81))))

-- ---- the data of an answer: 001's D1 to D43, of which D1 stands at place 0

-- the number of two digits
abbrev pub two_of : ℕ → ℕ
two_of x = 10 * (x / 16) + x % 16

-- D1 to D41 but for the units D5, D10, D15, D20 and D25
abbrev pub units : List ℕ
units = 4 ∷ 9 ∷ 14 ∷ 19 ∷ 24 ∷ []

-- a time of day, a date of years 0000 to 9999
abbrev pub NoClock : ℕ → ℕ → ℕ → ℕ → ℕ → ℕ → Type 0
NoClock second minute hour day month year =
    (59 < second) ⊎ (59 < minute) ⊎ (23 < hour) ⊎ (9999 < year) ⊎ NoDate year month day

-- 84: a digit over 9, or a clock (D35 second, minute, hour, day, month, D40 and D41 year) that shows no date or time of day
abbrev pub WrongListed : List ℕ → Type 0
WrongListed d =
    ((i : ℕ) × (i < 41) × (¬ In i units) × OverNine (at d i))
    ⊎ NoClock (two_of (at d 34)) (two_of (at d 35)) (two_of (at d 36)) (two_of (at d 37)) (two_of (at d 38)) (100 * two_of (at d 40) + two_of (at d 39))

-- the energy codes: Wh kinds and J kinds
abbrev pub codes : List ℕ
codes = 0x02 ∷ 0x05 ∷ 0x08 ∷ 0x0A ∷ 0x01 ∷ 0x0B ∷ 0x0E ∷ 0x11 ∷ 0x13 ∷ []

-- 85: cold and heat take the energy codes, power 14, 17 or 1A, flow 32 or 35, volume 29 or 2C
abbrev pub WrongUnits : List ℕ → Type 0
WrongUnits d =
    (¬ In (at d 4) codes) ⊎ (¬ In (at d 9) codes) ⊎ (¬ In (at d 14) (0x14 ∷ 0x17 ∷ 0x1A ∷ []))
    ⊎ (¬ In (at d 19) (0x32 ∷ 0x35 ∷ [])) ⊎ (¬ In (at d 24) (0x29 ∷ 0x2C ∷ []))

-- ---- the tables

-- 80 to 83; then, of an answer, 84 and 85
abbrev pub cjt_frame_table : List ℕ → Table
cjt_frame_table f =
    (80, OtherShape f)
    ∷ (81, OtherFrameSum f)
    ∷ (82, OtherParty f)
    ∷ (83, OtherMark f)
    ∷ only_if (at f 10 ≡ 0x2E) ((84, WrongListed (drop 14 f)) ∷ (85, WrongUnits (drop 14 f)) ∷ [])

-- 1 to 3, asked of the FE characters too; then 80 to 85
abbrev pub cjt_table : List ℕ → Table
cjt_table s =
    (1, length s ≡ 0)
    ∷ (2, Some (λ c. 511 < c) s)
    ∷ (3, Some (λ c. ones_in 9 c % 2 ≡ 1) s)
    ∷ cjt_frame_table (behind_fe (bytes_in s))

abbrev pub CjtOrder : Type 0
CjtOrder = (s : List ℕ) → OrderOf (cjt_table s) (read_cjt_line s)

-- For C: 17 before 1.
abbrev pub CjtHostOrder : Type 0
CjtHostOrder = (b : List ℕ) → NumberOrder ((17, length b % 2 ≡ 1) ∷ cjt_table (chars b)) (cjt_host_number b)

-- A request has 16 characters, an answer 59.
abbrev pub characters_of : CjtTelegram → ℕ
characters_of (telegrams.Request q) = 16
characters_of (telegrams.Answer a) = 59

-- Writing: 20, no accepted line reads as the telegram; then 21, fewer places than characters needed.
abbrev pub cjt_write_table : CjtTelegram → ℕ → Table
cjt_write_table t places = (20, (s : List ℕ) → read_cjt_line s ≡ reads t → ⊥) ∷ (21, places < characters_of t) ∷ []

abbrev pub CjtWriteOrder : Type 0
CjtWriteOrder = (t : CjtTelegram) (places : ℕ) → CjtSized t → OrderOf (cjt_write_table t places) (write_cjt_line t places)

-- An energy value as an M-Bus entry: 84, a count of more than eight digits; 85, a code that is none of the nine; 86, conversion not exact, only
-- for code 01 when its two decimals are not both zero.
abbrev pub energy_table : ℕ → ℕ → Table
energy_table count code = (84, 99999999 < count) ∷ (85, ¬ In code codes) ∷ (86, (code ≡ 0x01) × (¬ (count % 100 ≡ 0))) ∷ []

abbrev pub EnergyOrder : Type 0
EnergyOrder = (count code : ℕ) → OrderOf (energy_table count code) (entry_for count code)
