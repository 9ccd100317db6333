-- 02, 2026-08: an energy value turned into an M-Bus entry keeps its exact value, by the meaning of unit code and unit byte as numbers; when
-- that cannot be done; and that the entry can stand in a data telegram.
use Rattle.std.specs.Prelude.{ℕ, ◌*◌, ◌%◌, ◌^◌, ◌≤◌, ◌<◌, true, false, List, ◌≡◌, ltb, pos, ◌+ℤ◌}
use Rattle.mbus_rules.specs.declared.Entry.{Entry}
use Rattle.mbus_rules.specs.declared.Value.TheVariants.{Number}
use Rattle.base_rules.specs.Answers.{reads, refusal}
use Rattle.mbus_rules.specs.Quantities.{power_of}
use Rattle.mbus_rules.specs.Writing.{wrong_entry}
use Rattle.base_numbers.specs.Rounding.{apart}
use Rattle.cjt_rules.specs.declared.CjtAnswer.{CjtAnswer}
use Rattle.cjt_rules.specs.declared.CjtTelegram.TheVariants.{Answer}
use Rattle.cjt_rules.specs.CjtLines.{read_cjt_line}
use Rattle.cjt_rules.specs.CjtUnits.{watt_hours, energy_code}
use Rattle.cjt_energy.specs.Energies.{code_power, last_power, entry_power, entry_for, unit_of_kind}

-- ---- what codes and unit bytes mean

-- The powers of ten of the nine codes: Wh, kWh, MWh, MWh × 100; J, kJ, MJ, GJ, GJ × 100.
abbrev pub CodesAsPowers : Type 0
CodesAsPowers =
    (code_power 0x02 ≡ 0) × (code_power 0x05 ≡ 3) × (code_power 0x08 ≡ 6) × (code_power 0x0A ≡ 8)
    × (code_power 0x01 ≡ 0) × (code_power 0x0B ≡ 3) × (code_power 0x0E ≡ 6) × (code_power 0x11 ≡ 9) × (code_power 0x13 ≡ 11)

-- The power of a unit byte of Wh, raised by 3, is that of the table of quantities.
abbrev pub UnitBytesAsPowers : Type 0
UnitBytesAsPowers =
    (power_of 0x00 +ℤ pos 3 ≡ pos (entry_power 0x00))
    × (power_of 0x01 +ℤ pos 3 ≡ pos (entry_power 0x01))
    × (power_of 0x02 +ℤ pos 3 ≡ pos (entry_power 0x02))
    × (power_of 0x03 +ℤ pos 3 ≡ pos (entry_power 0x03))
    × (power_of 0x04 +ℤ pos 3 ≡ pos (entry_power 0x04))
    × (power_of 0x05 +ℤ pos 3 ≡ pos (entry_power 0x05))
    × (power_of 0x06 +ℤ pos 3 ≡ pos (entry_power 0x06))
    × (power_of 0x07 +ℤ pos 3 ≡ pos (entry_power 0x07))
    × (power_of 0x08 +ℤ pos 3 ≡ pos (entry_power 0x08))
    × (power_of 0x09 +ℤ pos 3 ≡ pos (entry_power 0x09))
    × (power_of 0x0A +ℤ pos 3 ≡ pos (entry_power 0x0A))
    × (power_of 0x0B +ℤ pos 3 ≡ pos (entry_power 0x0B))
    × (power_of 0x0C +ℤ pos 3 ≡ pos (entry_power 0x0C))
    × (power_of 0x0D +ℤ pos 3 ≡ pos (entry_power 0x0D))
    × (power_of 0x0E +ℤ pos 3 ≡ pos (entry_power 0x0E))
    × (power_of 0x0F +ℤ pos 3 ≡ pos (entry_power 0x0F))

-- ---- the same exact value

-- A value is count × 10^(code's power − 2), an entry n × 10^(unit byte's power): both are told a thousand times as large, without fractions.
abbrev pub ValueIsKept : Type 0
ValueIsKept =
    (count code : ℕ) (e : Entry) → entry_for count code ≡ reads e
    → (n : ℕ) × (e.value ≡ Number (record { count = pos n })) × (n * 10 ^ entry_power e.unit ≡ count * 10 ^ last_power code)

-- Wh kinds come to unit bytes 00–07, J kinds to 08–0F.
abbrev pub KindIsKept : Type 0
KindIsKept = (count code : ℕ) (e : Entry) → entry_for count code ≡ reads e → (e.unit < 16) × (ltb e.unit 0x08 ≡ watt_hours code)

-- No unit byte of the kind has a power of ten nearer to that of the value's last digit.
abbrev pub UnitIsNearest : Type 0
UnitIsNearest =
    (count code : ℕ) (e : Entry) → entry_for count code ≡ reads e → (n : ℕ) → n < 8
    → apart (last_power code) (entry_power e.unit) ≤ apart (last_power code) (entry_power (unit_of_kind code n))

-- ---- when it cannot be done

-- 86 is given for code 01 with two decimals that are not both zero,
abbrev pub JoulesWithDecimals : Type 0
JoulesWithDecimals = (count : ℕ) → count < 100000000 → (count % 100 ≡ 0 → ⊥) → entry_for count 0x01 ≡ refusal 86

-- and for nothing else.
abbrev pub OnlyJoulesWithDecimals : Type 0
OnlyJoulesWithDecimals = (count code : ℕ) → entry_for count code ≡ refusal 86 → (count < 100000000) × (code ≡ 0x01) × (count % 100 ≡ 0 → ⊥)

-- Every other value of eight digits with a code of energy has its entry,
abbrev pub OthersAreTurned : Type 0
OthersAreTurned =
    (count code : ℕ) → count < 100000000 → energy_code code ≡ true → (code ≡ 0x01 → count % 100 ≡ 0)
    → (e : Entry) × (entry_for count code ≡ reads e)

abbrev pub EnergiesOfALine : Type 0
EnergiesOfALine =
    (s : List ℕ) (a : CjtAnswer) → read_cjt_line s ≡ reads (Answer a)
    → ((a.cold.code ≡ 0x01 → a.cold.count % 100 ≡ 0) → (e : Entry) × (entry_for a.cold.count a.cold.code ≡ reads e))
    × ((a.heat.code ≡ 0x01 → a.heat.count % 100 ≡ 0) → (e : Entry) × (entry_for a.heat.count a.heat.code ≡ reads e))

-- ---- in a data telegram

-- The entry has structure 0E and at most ten of its twelve digits,
abbrev pub TenDigitsAtMost : Type 0
TenDigitsAtMost =
    (count code : ℕ) (e : Entry) → entry_for count code ≡ reads e
    → (e.structure ≡ 0x0E) × ((n : ℕ) × (e.value ≡ Number (record { count = pos n })) × (n < 10 ^ 10))

-- and breaks no rule of an entry of a data telegram, in Wh or in J.
abbrev pub StandsInData : Type 0
StandsInData = (count code : ℕ) (e : Entry) → entry_for count code ≡ reads e → wrong_entry e ≡ false

-- ---- values

abbrev pub entry : ℕ → ℕ → Entry
entry u n = record { structure = 0x0E; unit = u; value = Number (record { count = pos n }) }

-- 001's 2122.34 kWh; the largest counts of MWh × 100 and GJ × 100; 123 J; J with decimals; and the order of the refusals
abbrev pub EnergyValues : Type 0
EnergyValues =
    (entry_for 212234 0x05 ≡ reads (entry 0x04 212234))
    × (entry_for 99999999 0x0A ≡ reads (entry 0x07 9999999900))
    × (entry_for 99999999 0x13 ≡ reads (entry 0x0F 9999999900))
    × (entry_for 12300 0x01 ≡ reads (entry 0x08 123))
    × (entry_for 12345 0x01 ≡ refusal 86)
    × (entry_for 12345 0x03 ≡ refusal 85)
    × (entry_for 100000001 0x01 ≡ refusal 84)
    × (entry_for 100000001 0x03 ≡ refusal 84)
