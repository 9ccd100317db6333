-- 01, "Telegrams", the other way round: the line that is written for a telegram, and the refusals 20 and 21.
use Rattle.std.specs.Prelude.{ℕ, ◌+◌, ◌*◌, ◌/◌, ◌%◌, Bool, true, false, not, ◌&&◌, ◌||◌, List, [], ◌∷◌, ◌++◌, map, ltb, length, take, drop}
use Rattle.mbus_rules.specs.declared.Kind.{Kind}
use Rattle.mbus_rules.specs.declared.Kind.TheVariants.{Ack, Read, Enter, Leave, Data}
use Rattle.mbus_rules.specs.declared.Moment.{Moment}
use Rattle.mbus_rules.specs.declared.Value.{Value}
use Rattle.mbus_rules.specs.declared.Value.TheVariants.{Number, Time, Binary}
use Rattle.mbus_rules.specs.declared.Entry.{Entry}
use Rattle.mbus_rules.specs.declared.Header.{Header}
use Rattle.mbus_rules.specs.declared.Telegram.{Telegram}
use Rattle.base_rules.specs.Lists.{any}
use Rattle.base_characters.specs.Characters.{carrier}
use Rattle.base_rules.specs.Answers.{Answer, reads, refuse}
use Rattle.base_digits.specs.Digits.{packed}
use Rattle.mbus_rules.specs.Signs.{signed_bytes, fits_signed}
use Rattle.base_numbers.specs.TwosComplement.{below_zero, is_zero, binary_bytes, fits_binary}
use Rattle.mbus_rules.specs.Moments.{date_exists, time_exists, weekday_exists}
use Rattle.mbus_rules.specs.Headers.{maker_named, heat_meter}
use Rattle.mbus_rules.specs.Quantities.{quantity_of, width_of, paired, is_time, is_binary}
use Rattle.mbus_rules.specs.Entries.{may_fall, seen, missing}
use Rattle.mbus_rules.specs.Lines.{is_method}
use Rattle.base_characters.specs.Closing.{closed}

-- ---- the bytes of each part

abbrev pub moment_bytes : Moment → List ℕ
moment_bytes m =
    m.second ∷ m.minute ∷ (32 * m.weekday + m.hour) ∷ (32 * (m.year % 8) + m.day) ∷ (16 * (m.year / 8) + m.month) ∷ 0 ∷ []

abbrev pub bytes_of_value : ℕ → Value → List ℕ
bytes_of_value width (Number d) = signed_bytes width d.count
bytes_of_value width (Time m) = moment_bytes m
bytes_of_value width (Binary w) = binary_bytes width w.count

abbrev pub bytes_of_entry : Entry → List ℕ
bytes_of_entry e = e.structure ∷ e.unit ∷ bytes_of_value (width_of e.structure) e.value

unfoldable pub bytes_of_entries : List Entry → List ℕ
bytes_of_entries [] = []
bytes_of_entries (e ∷ es) = bytes_of_entry e ++ bytes_of_entries es

abbrev pub bytes_of_header : Header → List ℕ
bytes_of_header h =
    packed 4 h.number
    ++ (h.maker % 256 ∷ h.maker / 256 ∷ h.version ∷ h.meter_type ∷ h.access ∷ h.status ∷ 0 ∷ 0 ∷ [])

-- ---- the line

abbrev pub short_frame : List ℕ → List ℕ
short_frame f = 0x10 ∷ closed f

abbrev pub long_frame : List ℕ → List ℕ
long_frame f = 0x68 ∷ length f ∷ length f ∷ 0x68 ∷ closed f

-- the entries within the count
abbrev pub entries_of : Telegram → List Entry
entries_of t = take t.count t.entries

abbrev pub bytes_of_kind : Kind → Telegram → List ℕ
bytes_of_kind Ack t = 0xE5 ∷ []
bytes_of_kind Read t = short_frame (0x5B ∷ t.address ∷ [])
bytes_of_kind Enter t = long_frame (0x53 ∷ t.address ∷ 0x50 ∷ t.method ∷ [])
bytes_of_kind Leave t = long_frame (0x53 ∷ t.address ∷ 0x50 ∷ 0x00 ∷ [])
bytes_of_kind Data t = long_frame (0x08 ∷ t.address ∷ 0x72 ∷ (bytes_of_header t.header ++ bytes_of_entries (entries_of t)))

-- the line of a telegram: each byte with the parity bit that makes it even
unfoldable pub line_of : Telegram → List ℕ
line_of t = map carrier (bytes_of_kind t.kind t)

-- 02, 2026-06: the longest line has 89 characters
abbrev pub longest : ℕ
longest = 89

-- ---- 20: no accepted line reads as this telegram. The test that the writer computes:

-- something is where this kind has nothing
abbrev pub used_value : Value → Bool
used_value (Number d) = not (is_zero d.count)
used_value (Time m) = true
used_value (Binary w) = true

abbrev pub used_entry : Entry → Bool
used_entry e = ltb 0 e.structure || ltb 0 e.unit || used_value e.value

abbrev pub used_header : Header → Bool
used_header h =
    ltb 0 h.number || ltb 0 h.maker || ltb 0 h.version || ltb 0 h.meter_type || ltb 0 h.access || ltb 0 h.status

abbrev pub used_body : Telegram → Bool
used_body t = used_header t.header || ltb 0 t.count || any used_entry t.entries

-- a value of the wrong kind for its unit or its structure, too long for its structure, below zero where none is allowed, or a point in time that
-- does not exist
abbrev pub wrong_value : ℕ → ℕ → Value → Bool
wrong_value st unit (Number d) =
    is_time unit || is_binary st || not (fits_signed (width_of st) d.count) || below_zero d.count && not (may_fall unit)
wrong_value st unit (Binary w) =
    is_time unit || not (is_binary st) || not (fits_binary (width_of st) w.count) || below_zero w.count && not (may_fall unit)
wrong_value st unit (Time m) = not (is_time unit) || not (date_exists m) || not (time_exists m) || not (weekday_exists m)

abbrev pub wrong_entry : Entry → Bool
wrong_entry e = not (paired e.structure e.unit) || wrong_value e.structure e.unit e.value

abbrev pub unwritten_header : Header → Bool
unwritten_header h = not (ltb h.number 100000000) || not (maker_named h.maker) || not (heat_meter h.meter_type)

-- an entry repeats a quantity of those before it
unfoldable pub repeats : List Entry → List Entry → Bool
repeats done [] = false
repeats done (e ∷ es) = seen (quantity_of e.unit) done || repeats (done ++ (e ∷ [])) es

abbrev pub wrong_data : Telegram → Bool
wrong_data t =
    unwritten_header t.header || ltb 7 t.count || any wrong_entry (entries_of t) || repeats [] (entries_of t) || missing (entries_of t)
    || any used_entry (drop t.count t.entries)

abbrev pub wrong_for : Kind → Telegram → Bool
wrong_for Ack t = ltb 0 t.address || ltb 0 t.method || used_body t
wrong_for Read t = ltb 0 t.method || used_body t
wrong_for Enter t = not (is_method t.method) || used_body t
wrong_for Leave t = ltb 0 t.method || used_body t
wrong_for Data t = ltb 0 t.method || wrong_data t

unfoldable pub unwritable : Telegram → Bool
unwritable t = wrong_for t.kind t

-- Writing answers 20, then 21 where there are fewer places than characters needed, else the line.
abbrev pub write_line : Telegram → ℕ → Answer (List ℕ)
write_line t places = refuse 20 (unwritable t) (refuse 21 (ltb places (length (line_of t))) (reads (line_of t)))
