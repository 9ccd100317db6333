-- 01, "Telegrams", with 02's 2026-03, 2026-06 and 2026-07: which data is written and read, field by field.
use Rattle.std.specs.Prelude.{ℕ, suc, ◌+◌, ◌*◌, ◌^◌, ◌≤◌, ◌<◌, true, false, List, [], ◌∷◌, ◌⊎◌, ◌≡◌, ℤ, pos, negsuc, length}
use Rattle.base_rules.specs.Answers.{reads}
use Rattle.base_calendar.specs.Months.{days_in}
use Rattle.mbus_rules.specs.declared.Entry.{Entry}
use Rattle.mbus_rules.specs.declared.Header.{Header}
use Rattle.mbus_rules.specs.declared.Moment.{Moment}
use Rattle.mbus_rules.specs.declared.Value.{Value}
use Rattle.mbus_rules.specs.declared.Value.TheVariants.{Number, Time, Binary}
use Rattle.mbus_rules.specs.Entries.{seen}
use Rattle.mbus_rules.specs.Quantities.{quantity_of, energy, volume, flow, inlet, outlet, time, width_of, is_packed, is_binary}
use Rattle.mbus_rules.specs.Telegrams.{data_of}
use Rattle.mbus_rules.specs.Writing.{line_of, write_line}
use Rattle.demands.specs.CjtTables.{OneOf}
use Rattle.mbus_rules.specs.Lines.{read_line}

-- a letter, 1 to 26 for A to Z
abbrev pub ALetter : ℕ → Type 0
ALetter g = (1 ≤ g) × (g ≤ 26)

-- A meter number of eight digits, a maker of three letters, a meter type of the four; version, access and status are any byte.
pub record HeaderStands (h : Header) : Type 0 where
  pub number : h.number < 10 ^ 8
  pub maker : (x y z : ℕ) × (h.maker ≡ 1024 * x + 32 * y + z) × ALetter x × ALetter y × ALetter z
  pub type : OneOf (0x04 ∷ 0x0B ∷ 0x0C ∷ 0x0D ∷ []) h.meter_type
  pub bytes : (h.version < 256) × (h.access < 256) × (h.status < 256)

-- flow, inlet and outlet may be below zero
abbrev pub MayFall : ℕ → Type 0
MayFall u = (quantity_of u ≡ inlet) ⊎ ((quantity_of u ≡ outlet) ⊎ (quantity_of u ≡ flow))

-- so many bytes hold it: two digits each, one less beside a minus; or two's complement
abbrev pub InDigits : ℕ → ℕ → ℤ → Type 0
InDigits w u (pos n) = n < 100 ^ w
InDigits w u (negsuc n) = (10 * suc n < 100 ^ w) × MayFall u

abbrev pub InBinary : ℕ → ℕ → ℤ → Type 0
InBinary w u (pos n) = 2 * n < 256 ^ w
InBinary w u (negsuc n) = (2 * suc n ≤ 256 ^ w) × MayFall u

-- a date of 2000 to 2099, a time of day, and a weekday from 1 to 7 or not said
pub record MomentStands (m : Moment) : Type 0 where
  pub year : m.year < 100
  pub month : (1 ≤ m.month) × (m.month ≤ 12)
  pub day : (1 ≤ m.day) × (m.day ≤ days_in (2000 + m.year) m.month)
  pub hour : m.hour < 24
  pub minute : m.minute < 60
  pub second : m.second < 60
  pub weekday : m.weekday ≤ 7

-- A measured value in a structure of its sort, or a point in time in structure 06 with unit 6D. (`Structures`, `Meanings`: the whole tables.)
abbrev pub ValueStands : ℕ → ℕ → Value → Type 0
ValueStands st u (Number d) = (is_packed st ≡ true) × (quantity_of u < time) × InDigits (width_of st) u d.count
ValueStands st u (Binary b) = (is_binary st ≡ true) × (quantity_of u < time) × InBinary (width_of st) u b.count
ValueStands st u (Time m) = (st ≡ 0x06) × (u ≡ 0x6D) × MomentStands m

-- each entry stands, and none behind it has its quantity
abbrev pub EntriesStand : List Entry → Type 0
EntriesStand [] = Unit {0}
EntriesStand (e ∷ es) = ValueStands e.structure e.unit e.value × (seen (quantity_of e.unit) es ≡ false) × EntriesStand es

-- Data at every address, with such a header and up to seven such entries, energy, volume, inlet, outlet and time among them, is written wherever there
-- are as many places as characters, and its line is read as it.
abbrev pub DataIsRead : Type 0
DataIsRead = (a : ℕ) (h : Header) (es : List Entry) (places : ℕ) → a < 256 → HeaderStands h → length es ≤ 7 → EntriesStand es
    → seen energy es ≡ true → seen volume es ≡ true → seen inlet es ≡ true → seen outlet es ≡ true → seen time es ≡ true
    → length (line_of (data_of a h es)) ≤ places
    → (write_line (data_of a h es) places ≡ reads (line_of (data_of a h es))) × (read_line (line_of (data_of a h es)) ≡ reads (data_of a h es))
