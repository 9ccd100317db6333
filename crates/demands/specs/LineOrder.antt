-- 01, "Refusal numbers": a line as it is read, with what 02 changed (2026-03, -05, -06 and -07). Each row says its number's words of the
-- line's characters, or of their bytes: what the rules compute has no part in it, but for 01's tables of structures and unit bytes.
use Rattle.std.specs.Prelude.{ℕ, zero, suc, ◌+◌, ◌*◌, ◌-◌, ◌/◌, ◌%◌, ◌<◌, ◌≤◌, List, [], ◌∷◌, ◌++◌, map, ◌⊎◌, ◌≡◌, length, take, drop}
use Rattle.std.specs.Int.Count.{ones_in}
use Rattle.base_rules.specs.Lists.{at, total}
use Rattle.base_characters.specs.Characters.{chars}
use Rattle.base_rules.specs.Answers.{reads, refusal}
use Rattle.mbus_rules.specs.declared.Telegram.{Telegram}
use Rattle.mbus_rules.specs.Host.{host_number}
use Rattle.mbus_rules.specs.Lines.{read_line}
use Rattle.mbus_rules.specs.TelegramSizes.{Sized}
use Rattle.mbus_rules.specs.Writing.{write_line}
use Rattle.mbus_rules.specs.Quantities.{energy, volume, flow, inlet, outlet, time, quantity_of, width_of}
use Rattle.demands.specs.Orders.{Table, OrderOf, NumberOrder, Some, In, only_if, NoDate}

-- the low eight bits of each character
abbrev pub bytes_in : List ℕ → List ℕ
bytes_in s = map (λ c. c % 256) s

-- ---- the frame, on bytes

-- 4: first byte not E5, 10 or 68
abbrev pub OtherStart : List ℕ → Type 0
OtherStart b = ¬ In (at b 0) (0xE5 ∷ 0x10 ∷ 0x68 ∷ [])

-- 5: count not 1 after E5, not 5 after 10, under 6 or not second byte + 6 after 68
abbrev pub OtherCount : List ℕ → Type 0
OtherCount b =
    ((at b 0 ≡ 0xE5) × (¬ (length b ≡ 1))) ⊎ ((at b 0 ≡ 0x10) × (¬ (length b ≡ 5)))
    ⊎ ((at b 0 ≡ 0x68) × ((length b < 6) ⊎ (¬ (length b ≡ at b 1 + 6))))

-- 6: second and third byte differ, or fourth is not 68; the long form alone has them
abbrev pub OtherLengths : List ℕ → Type 0
OtherLengths b = (at b 0 ≡ 0x68) × ((¬ (at b 1 ≡ at b 2)) ⊎ (¬ (at b 3 ≡ 0x68)))

-- 7: a line that begins with 10 or 68 does not end in 16
abbrev pub OtherEnd : List ℕ → Type 0
OtherEnd b = In (at b 0) (0x10 ∷ 0x68 ∷ []) × (¬ (at b (length b - 1) ≡ 0x16))

-- 8: CS, the byte before the last, is not the sum of the bytes from C up to before CS, modulo 256. C is the second byte, or the fifth.
abbrev pub OtherSum : List ℕ → Type 0
OtherSum b =
    ((at b 0 ≡ 0x10) × (¬ (at b 3 ≡ (at b 1 + at b 2) % 256)))
    ⊎ ((at b 0 ≡ 0x68) × (¬ (at b (length b - 2) ≡ total (take (length b - 6) (drop 4 b)) % 256)))

-- L = 4 with C 53, CI 50 and S 90, 91, 92 or 00
abbrev pub IsCommand : List ℕ → Type 0
IsCommand b = (at b 1 ≡ 4) × (at b 4 ≡ 0x53) × (at b 6 ≡ 0x50) × In (at b 7) (0x90 ∷ 0x91 ∷ 0x92 ∷ 0x00 ∷ [])

-- L ≥ 15 with C 08 and CI 72
abbrev pub IsData : List ℕ → Type 0
IsData b = (15 ≤ at b 1) × (at b 4 ≡ 0x08) × (at b 6 ≡ 0x72)

-- 9: short form: C not 5B; long form: neither of the two
abbrev pub OtherControl : List ℕ → Type 0
OtherControl b =
    ((at b 0 ≡ 0x10) × (¬ (at b 1 ≡ 0x5B))) ⊎ ((at b 0 ≡ 0x68) × (¬ IsCommand b) × (¬ IsData b))

-- ---- the header: its twelve bytes, and what follows them

-- a digit of the byte is over 9
abbrev pub OverNine : ℕ → Type 0
OverNine x = (9 < x % 16) ⊎ (9 < x / 16)

-- a group of five bits is no letter, 1 to 26
abbrev pub NoLetter : ℕ → Type 0
NoLetter g = (g ≡ 0) ⊎ (26 < g)

-- the top bit is set, or one of the three groups is no letter
abbrev pub NoMaker : ℕ → Type 0
NoMaker m = (32768 ≤ m) ⊎ NoLetter (m / 1024) ⊎ NoLetter (m / 32 % 32) ⊎ NoLetter (m % 32)

-- 10: a digit of the meter number over 9, a maker that is none, a type not 04, 0B, 0C or 0D, a signature not 00 00
abbrev pub WrongHeader : List ℕ → Type 0
WrongHeader h =
    Some OverNine (take 4 h) ⊎ NoMaker (256 * at h 5 + at h 4) ⊎ (¬ In (at h 7) (0x04 ∷ 0x0B ∷ 0x0C ∷ 0x0D ∷ []))
    ⊎ (¬ (at h 10 ≡ 0)) ⊎ (¬ (at h 11 ≡ 0))

-- ---- one entry: the bytes from its structure byte on

-- its value's bytes
abbrev pub its_value : List ℕ → List ℕ
its_value e = take (width_of (at e 0)) (drop 2 e)

-- packed digits, binary
abbrev pub of_digits : List ℕ
of_digits = 0x0A ∷ 0x0B ∷ 0x0C ∷ 0x0E ∷ []

abbrev pub of_binary : List ℕ
of_binary = 0x01 ∷ 0x02 ∷ 0x03 ∷ 0x04 ∷ 0x06 ∷ 0x07 ∷ []

-- a unit byte of the table
abbrev pub KnownUnit : ℕ → Type 0
KnownUnit u = (u ≤ 0x17) ⊎ ((0x28 ≤ u) × (u ≤ 0x2F)) ⊎ ((0x38 ≤ u) × (u ≤ 0x3F)) ⊎ ((0x58 ≤ u) × (u ≤ 0x5F)) ⊎ (u ≡ 0x6D)

-- 11: one byte left, unknown structure or unit, wrong pair (6D goes with 06 only), or value past the end
abbrev pub Unfit : List ℕ → Type 0
Unfit e =
    (length e < 2) ⊎ (¬ In (at e 0) (of_digits ++ of_binary)) ⊎ (¬ KnownUnit (at e 1)) ⊎ ((at e 1 ≡ 0x6D) × (¬ (at e 0 ≡ 0x06)))
    ⊎ (length e < 2 + width_of (at e 0))

-- F in the highest place
abbrev pub Minus : List ℕ → Type 0
Minus v = at v (length v - 1) / 16 ≡ 0xF

-- a digit over 9 that is no F in the highest place
abbrev pub WrongDigit : List ℕ → Type 0
WrongDigit v = (i : ℕ) × (i < length v) × ((9 < at v i % 16) ⊎ ((9 < at v i / 16) × (¬ ((suc i ≡ length v) × (at v i / 16 ≡ 0xF)))))

-- F in the highest place, and all other digits 0
abbrev pub MinusNought : List ℕ → Type 0
MinusNought v = (at v (length v - 1) ≡ 0xF0) × ((i : ℕ) → suc i < length v → at v i ≡ 0)

-- the quantities that may be below zero
abbrev pub Falls : ℕ → Type 0
Falls u = In (quantity_of u) (inlet ∷ outlet ∷ flow ∷ [])

-- 12: a digit over 9, minus zero, or below zero where none is allowed, by a minus or in binary by the highest bit
abbrev pub WrongValue : List ℕ → Type 0
WrongValue e =
    (In (at e 0) of_digits × (WrongDigit (its_value e) ⊎ MinusNought (its_value e) ⊎ (Minus (its_value e) × (¬ Falls (at e 1)))))
    ⊎ (In (at e 0) of_binary × (¬ (at e 1 ≡ 0x6D)) × (128 ≤ at (its_value e) (length (its_value e) - 1)) × (¬ Falls (at e 1)))

-- no day of the calendar, in years 2000 to 2099
abbrev pub NoDay : ℕ → ℕ → ℕ → Type 0
NoDay year month day = (99 < year) ⊎ NoDate (2000 + year) month day

-- 13: a second or minute over 59, their spare bits too, an hour over 23, no day of the calendar, a last byte that is not 0
abbrev pub WrongTime : List ℕ → Type 0
WrongTime v =
    (59 < at v 0) ⊎ (59 < at v 1) ⊎ (23 < at v 2 % 32) ⊎ NoDay (8 * (at v 4 / 16) + at v 3 / 32) (at v 4 % 16) (at v 3 % 32)
    ⊎ (¬ (at v 5 ≡ 0))

-- 16: energy, volume, inlet, outlet or time is not among the quantities
abbrev pub Missing : List ℕ → Type 0
Missing seen = (¬ In energy seen) ⊎ (¬ In volume seen) ⊎ (¬ In inlet seen) ⊎ (¬ In outlet seen) ⊎ (¬ In time seen)

-- 11 to 14 of the first entry, then of the next, which begins behind its value, and 16 where no byte is left: the first entry that breaks a rule
-- decides, by the lowest number that it breaks. `most` is how many bytes there were at first, more than there can be entries.
unfoldable pub entries_table : (most : ℕ) → (seen : List ℕ) → List ℕ → Table
entries_table zero seen e = (16, Missing seen) ∷ []
entries_table (suc most) seen [] = (16, Missing seen) ∷ []
entries_table (suc most) seen (x ∷ t) =
    let e = x ∷ t in
    (11, Unfit e)
    ∷ (12, WrongValue e)
    ∷ (13, (at e 1 ≡ 0x6D) × WrongTime (its_value e))
    ∷ (14, In (quantity_of (at e 1)) seen)
    ∷ entries_table most (quantity_of (at e 1) ∷ seen) (drop (2 + width_of (at e 0)) e)

-- ---- the line

-- the bytes of the entries: behind C, A, CI and the header, up to before CS
abbrev pub entry_part : List ℕ → List ℕ
entry_part b = take (at b 1 - 15) (drop 19 b)

-- 10 to 16, of a data line
abbrev pub data_table : List ℕ → Table
data_table b = (10, WrongHeader (drop 7 b)) ∷ entries_table (length (entry_part b)) [] (entry_part b)

-- 4 to 16, of the bytes
abbrev pub frame_table : List ℕ → Table
frame_table b =
    (4, OtherStart b)
    ∷ (5, OtherCount b)
    ∷ (6, OtherLengths b)
    ∷ (7, OtherEnd b)
    ∷ (8, OtherSum b)
    ∷ (9, OtherControl b)
    ∷ only_if ((at b 0 ≡ 0x68) × IsData b) (data_table b)

-- 1: the line is empty; 2: a character is over 511; 3: a parity is odd, over all nine bits; then 4 to 16
abbrev pub line_table : List ℕ → Table
line_table s = (1, length s ≡ 0) ∷ (2, Some (λ c. 511 < c) s) ∷ (3, Some (λ c. ones_in 9 c % 2 ≡ 1) s) ∷ frame_table (bytes_in s)

-- Line reading returns the lowest that applies, except that 11 to 14 are tried entry by entry from the left.
abbrev pub LineOrder : Type 0
LineOrder = (s : List ℕ) → OrderOf (line_table s) (read_line s)

-- For C: 17 in the host form only, before 1: odd number of bytes.
abbrev pub HostOrder : Type 0
HostOrder = (b : List ℕ) → NumberOrder ((17, length b % 2 ≡ 1) ∷ line_table (chars b)) (host_number b)

-- Writing a telegram: 20, no accepted line reads as it; then 21, fewer places than characters needed.
abbrev pub write_table : Telegram → ℕ → Table
write_table t places =
    (20, (s : List ℕ) → read_line s ≡ reads t → ⊥)
    ∷ (21, (s : List ℕ) × (read_line s ≡ reads t) × (places < length s))
    ∷ []

abbrev pub WriteOrder : Type 0
WriteOrder = (t : Telegram) (places : ℕ) → Sized t → OrderOf (write_table t places) (write_line t places)

-- 02, 2026-02: a late odd parity precedes an early wrong start byte, which is refused where the parity is even.
abbrev pub LateParity : Type 0
LateParity =
    (read_line (0x011 ∷ 0x15B ∷ 0x1FE ∷ 0x059 ∷ 0x016 ∷ []) ≡ refusal 3) × (read_line (0x011 ∷ 0x15B ∷ 0x1FE ∷ 0x059 ∷ 0x116 ∷ []) ≡ refusal 4)
