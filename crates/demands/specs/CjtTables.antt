-- 02, "CJ/T 188 meters on the same bench": 001's tables of the answer, of units and of types, place by place and code by code.
use Rattle.std.specs.Prelude.{ℕ, ◌+◌, ◌-◌, ◌^◌, ◌≤◌, ◌<◌, true, false, List, [], ◌∷◌, ◌++◌, map, ◌⊎◌, ◌↔◌, ◌≡◌, eqb, take, drop}
use Rattle.base_rules.specs.Lists.{any}
use Rattle.base_rules.specs.Answers.{reads}
use Rattle.base_characters.specs.Characters.{carrier}
use Rattle.base_characters.specs.Closing.{closed}
use Rattle.base_digits.specs.Digits.{packed}
use Rattle.base_calendar.specs.Months.{days_in}
use Rattle.cjt_rules.specs.declared.CjtAddress.{CjtAddress}
use Rattle.cjt_rules.specs.declared.CjtAddress.TheVariants.{Meter, Broadcast}
use Rattle.cjt_rules.specs.declared.CjtRequest.{CjtRequest}
use Rattle.cjt_rules.specs.declared.CjtClock.{CjtClock}
use Rattle.cjt_rules.specs.declared.CjtAnswer.{CjtAnswer}
use Rattle.cjt_rules.specs.declared.CjtTelegram.TheVariants.{Request, Answer}
use Rattle.cjt_rules.specs.CjtDecimals.{energy_digits, power_digits, volume_digits, temperature_digits, hours_digits, whole_in, fraction_in}
use Rattle.cjt_rules.specs.CjtLines.{read_cjt_line}
use Rattle.cjt_energy.specs.Energies.{code_power, last_power}
use Rattle.cjt_rules.specs.CjtWriting.{cjt_line_of, unwritten}
use Rattle.cjt_rules.specs.CjtDecimals.{flow_digits}

-- ---- the line, place by place

-- the seven bytes of the address that a request asks
abbrev pub asked_bytes : CjtAddress → List ℕ
asked_bytes (Meter n) = packed 7 n
asked_bytes Broadcast = 0xAA ∷ 0xAA ∷ 0xAA ∷ 0xAA ∷ 0xAA ∷ 0xAA ∷ 0xAA ∷ []

-- The line of a request: 68, type, address, control 01, length 03, data 1F 90 and the serial number, sum and 16.
abbrev pub RequestLine : Type 0
RequestLine = (q : CjtRequest)
    → cjt_line_of (Request q)
    ≡ map carrier (closed (0x68 ∷ q.meter_type ∷ (asked_bytes q.address ++ (0x01 ∷ 0x03 ∷ 0x1F ∷ 0x90 ∷ q.serial ∷ []))))

-- 001's D bytes, from one to another, of a line's bytes
abbrev pub D : ℕ → ℕ → List ℕ → List ℕ
D first last b = take (last + 1 - first) (drop (13 + first) b)

-- D1 to D43: of each value the digits behind the point come first, then those before it, then the code of its unit.
pub record PlacesOf (a : CjtAnswer) (b : List ℕ) : Type 0 where
  pub cold_behind : D 1 1 b ≡ packed 1 (fraction_in energy_digits a.cold.count)
  pub cold_before : D 2 4 b ≡ packed 3 (whole_in energy_digits a.cold.count)
  pub cold_unit : D 5 5 b ≡ a.cold.code ∷ []
  pub heat_behind : D 6 6 b ≡ packed 1 (fraction_in energy_digits a.heat.count)
  pub heat_before : D 7 9 b ≡ packed 3 (whole_in energy_digits a.heat.count)
  pub heat_unit : D 10 10 b ≡ a.heat.code ∷ []
  pub power_behind : D 11 11 b ≡ packed 1 (fraction_in power_digits a.power.count)
  pub power_before : D 12 14 b ≡ packed 3 (whole_in power_digits a.power.count)
  pub power_unit : D 15 15 b ≡ a.power.code ∷ []
  pub flow_behind : D 16 17 b ≡ packed 2 (fraction_in flow_digits a.flow.count)
  pub flow_before : D 18 19 b ≡ packed 2 (whole_in flow_digits a.flow.count)
  pub flow_unit : D 20 20 b ≡ a.flow.code ∷ []
  pub volume_behind : D 21 21 b ≡ packed 1 (fraction_in volume_digits a.volume.count)
  pub volume_before : D 22 24 b ≡ packed 3 (whole_in volume_digits a.volume.count)
  pub volume_unit : D 25 25 b ≡ a.volume.code ∷ []
  pub inlet_behind : D 26 26 b ≡ packed 1 (fraction_in temperature_digits a.inlet)
  pub inlet_before : D 27 28 b ≡ packed 2 (whole_in temperature_digits a.inlet)
  pub outlet_behind : D 29 29 b ≡ packed 1 (fraction_in temperature_digits a.outlet)
  pub outlet_before : D 30 31 b ≡ packed 2 (whole_in temperature_digits a.outlet)
  pub hours : D 32 34 b ≡ packed 3 (whole_in hours_digits a.hours)
  pub second : D 35 35 b ≡ packed 1 a.clock.second
  pub minute : D 36 36 b ≡ packed 1 a.clock.minute
  pub hour : D 37 37 b ≡ packed 1 a.clock.hour
  pub day : D 38 38 b ≡ packed 1 a.clock.day
  pub month : D 39 39 b ≡ packed 1 a.clock.month
  pub year : D 40 41 b ≡ packed 2 a.clock.year
  pub state : D 42 43 b ≡ a.first_state ∷ a.second_state ∷ []

-- The line of an answer: 68, type, address, control 81, length 2E, data 1F 90, the serial number and D1 to D43, sum and 16.
abbrev pub AnswerLine : Type 0
AnswerLine = (a : CjtAnswer)
    → (b : List ℕ) × (cjt_line_of (Answer a) ≡ map carrier b)
    × (take 14 b ≡ 0x68 ∷ a.meter_type ∷ (packed 7 a.address ++ (0x81 ∷ 0x2E ∷ 0x1F ∷ 0x90 ∷ a.serial ∷ [])))
    × PlacesOf a b
    × (b ≡ closed (take 57 b))

-- The digits of each value fill its bytes, two to a byte, and an energy value's last digit is that many powers of ten below its unit. (`last_power`
-- is told 3 higher.)
abbrev pub PointsStand : Type 0
PointsStand =
    (energy_digits.before + energy_digits.behind ≡ 8) × (power_digits.before + power_digits.behind ≡ 8) × (flow_digits.before + flow_digits.behind ≡ 8)
    × (volume_digits.before + volume_digits.behind ≡ 8) × (temperature_digits.before + temperature_digits.behind ≡ 6)
    × (hours_digits.before + hours_digits.behind ≡ 6)
    × ((code : ℕ) → last_power code + energy_digits.behind ≡ code_power code + 3)

-- ---- what can be written, and so what is read

-- one of the codes
abbrev pub OneOf : List ℕ → ℕ → Type 0
OneOf codes code = any (eqb code) codes ≡ true

-- types 20–23 and 25–27
abbrev pub OfAType : ℕ → Type 0
OfAType t = ((0x20 ≤ t) × (t ≤ 0x23)) ⊎ ((0x25 ≤ t) × (t ≤ 0x27))

-- Wh, kWh, MWh, MWh × 100, J, kJ, MJ, GJ, GJ × 100
abbrev pub energy_codes : List ℕ
energy_codes = 0x02 ∷ 0x05 ∷ 0x08 ∷ 0x0A ∷ 0x01 ∷ 0x0B ∷ 0x0E ∷ 0x11 ∷ 0x13 ∷ []

-- a Gregorian date and time of day, years 0000 to 9999
pub record ShowsATime (c : CjtClock) : Type 0 where
  pub year : c.year < 10000
  pub month : (1 ≤ c.month) × (c.month ≤ 12)
  pub day : (1 ≤ c.day) × (c.day ≤ days_in c.year c.month)
  pub hour : c.hour < 24
  pub minute : c.minute < 60
  pub second : c.second < 60

-- what an answer has to be
pub record Tellable (a : CjtAnswer) : Type 0 where
  pub type : OfAType a.meter_type
  pub address : a.address < 10 ^ 14
  pub cold : (a.cold.count < 10 ^ 8) × OneOf energy_codes a.cold.code
  pub heat : (a.heat.count < 10 ^ 8) × OneOf energy_codes a.heat.code
  pub power : (a.power.count < 10 ^ 8) × OneOf (0x14 ∷ 0x17 ∷ 0x1A ∷ []) a.power.code
  pub flow : (a.flow.count < 10 ^ 8) × OneOf (0x32 ∷ 0x35 ∷ []) a.flow.code
  pub volume : (a.volume.count < 10 ^ 8) × OneOf (0x29 ∷ 0x2C ∷ []) a.volume.code
  pub inlet : a.inlet < 10 ^ 6
  pub outlet : a.outlet < 10 ^ 6
  pub hours : a.hours < 10 ^ 6
  pub clock : ShowsATime a.clock

-- An answer can be written, and so is read (`WhatIsAcceptedOfCjt`), exactly where type, address, digits, codes and clock are such.
abbrev pub AnswersWritten : Type 0
AnswersWritten = (a : CjtAnswer) → (unwritten (Answer a) ≡ false) ↔ Tellable a

-- fourteen digits, or every meter
abbrev pub Askable : CjtAddress → Type 0
Askable (Meter n) = n < 10 ^ 14
Askable Broadcast = Unit {0}

-- A request can be written, and so is read, exactly where type and address are such.
abbrev pub RequestsWritten : Type 0
RequestsWritten = (q : CjtRequest) → (unwritten (Request q) ≡ false) ↔ (OfAType q.meter_type × Askable q.address)

-- ---- a value in which all numbers differ

abbrev pub cjt_value : CjtAnswer
cjt_value = record {
  meter_type = 0x23;
  address = 97867564534231;
  serial = 0xC7;
  cold = record { count = 4030201; code = 0x13 };
  heat = record { count = 8070605; code = 0x0E };
  power = record { count = 14131211; code = 0x1A };
  flow = record { count = 24232221; code = 0x32 };
  volume = record { count = 38373635; code = 0x29 };
  inlet = 444341;
  outlet = 474645;
  hours = 504948;
  clock = record { year = 1926; month = 9; day = 17; hour = 16; minute = 57; second = 58 };
  first_state = 0xA5;
  second_state = 0x5B;
}

abbrev pub cjt_value_bytes : List ℕ
cjt_value_bytes =
    0x68 ∷ 0x23 ∷ 0x31 ∷ 0x42 ∷ 0x53 ∷ 0x64 ∷ 0x75 ∷ 0x86 ∷ 0x97 ∷ 0x81 ∷ 0x2E ∷ 0x1F ∷ 0x90 ∷ 0xC7
    ∷ 0x01 ∷ 0x02 ∷ 0x03 ∷ 0x04 ∷ 0x13
    ∷ 0x05 ∷ 0x06 ∷ 0x07 ∷ 0x08 ∷ 0x0E
    ∷ 0x11 ∷ 0x12 ∷ 0x13 ∷ 0x14 ∷ 0x1A
    ∷ 0x21 ∷ 0x22 ∷ 0x23 ∷ 0x24 ∷ 0x32
    ∷ 0x35 ∷ 0x36 ∷ 0x37 ∷ 0x38 ∷ 0x29
    ∷ 0x41 ∷ 0x43 ∷ 0x44
    ∷ 0x45 ∷ 0x46 ∷ 0x47
    ∷ 0x48 ∷ 0x49 ∷ 0x50
    ∷ 0x58 ∷ 0x57 ∷ 0x16 ∷ 0x17 ∷ 0x09 ∷ 0x26 ∷ 0x19
    ∷ 0xA5 ∷ 0x5B ∷ []

-- It is read and written so, with the sum and 16 behind it.
abbrev pub AllDiffer : Type 0
AllDiffer =
    (read_cjt_line (map carrier (closed cjt_value_bytes)) ≡ reads (Answer cjt_value))
    × (cjt_line_of (Answer cjt_value) ≡ map carrier (closed cjt_value_bytes))
