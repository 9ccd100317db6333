-- 02, 2026-08: an energy value, a count of its last digit with a unit code, turned into an M-Bus entry of structure 0E, Wh kinds to Wh and
-- J kinds to J, with the same exact value.
use Rattle.std.specs.Prelude.{ℕ, ◌+◌, ◌-◌, ◌*◌, ◌/◌, ◌%◌, ◌^◌, min, cond, not, ◌||◌, ltb, eqb, pos}
use Rattle.mbus_rules.specs.declared.Entry.{Entry}
use Rattle.mbus_rules.specs.declared.Value.TheVariants.{Number}
use Rattle.base_rules.specs.Answers.{Answer, reads, refuse}
use Rattle.cjt_rules.specs.CjtUnits.{joules, energy_code}
use Rattle.cjt_rules.specs.CjtWriting.{over_eight}

-- The code's power of ten: 02 Wh, 05 kWh, 08 MWh, 0A MWh × 100; 01 J, 0B kJ, 0E MJ, 11 GJ, 13 GJ × 100.
unfoldable pub code_power : ℕ → ℕ
code_power code =
    cond (eqb code 0x05 || eqb code 0x0B) 3
    (cond (eqb code 0x08 || eqb code 0x0E) 6
    (cond (eqb code 0x0A) 8
    (cond (eqb code 0x11) 9
    (cond (eqb code 0x13) 11
    0))))

-- The unit byte whose power of ten is nearest to that of the value's last digit, which is the code's power less 2 since a value has two
-- decimals: 00–07 have n − 3, 08–0F have n.
unfoldable pub unit_for : ℕ → ℕ
unit_for code = cond (joules code) (0x08 + min 7 (code_power code - 2)) (min 7 (code_power code + 1))

-- the unit bytes of the code's kind, by their low three bits
abbrev pub unit_of_kind : ℕ → ℕ → ℕ
unit_of_kind code n = cond (joules code) (0x08 + n) n

-- Powers of ten, raised by 3 so that all are natural numbers: that of a value's last digit, and that of a unit byte.
abbrev pub last_power : ℕ → ℕ
last_power code = code_power code + 1

abbrev pub entry_power : ℕ → ℕ
entry_power unit = cond (ltb unit 0x08) (unit % 8) (unit % 8 + 3)

-- so many thousandths of a Wh or a J one of a value's last digit is, and one of an entry's
abbrev pub code_digit : ℕ → ℕ
code_digit code = 10 ^ last_power code

abbrev pub entry_digit : ℕ → ℕ
entry_digit unit = 10 ^ entry_power unit

-- Digits are added or taken away so that the value is the same. 84: digits; 85: unit; 86: conversion not exact.
unfoldable pub entry_for : ℕ → ℕ → Answer Entry
entry_for count code =
    let value = count * code_digit code in
    let digit = entry_digit (unit_for code) in
    refuse 84 (over_eight count)
    (refuse 85 (not (energy_code code))
    (refuse 86 (not (eqb (value % digit) 0))
    (reads (record { structure = 0x0E; unit = unit_for code; value = Number (record { count = pos (value / digit) }) }))))
