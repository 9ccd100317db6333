-- 02, 2026-08: "Cold and heat take the energy codes, power 14, 17 or 1A, volume 29 or 2C, flow 32 or 35" (001, the table of units).
use Rattle.std.specs.Prelude.{ℕ, Bool, not, ◌||◌, eqb}
use Rattle.cjt_rules.specs.declared.CjtAnswer.{CjtAnswer}

-- Wh, kWh, MWh and 100 MWh
abbrev pub watt_hours : ℕ → Bool
watt_hours u = eqb u 0x02 || eqb u 0x05 || eqb u 0x08 || eqb u 0x0A

-- J, kJ, MJ, GJ and 100 GJ
abbrev pub joules : ℕ → Bool
joules u = eqb u 0x01 || eqb u 0x0B || eqb u 0x0E || eqb u 0x11 || eqb u 0x13

abbrev pub energy_code : ℕ → Bool
energy_code u = watt_hours u || joules u

-- W, kW and MW
abbrev pub power_code : ℕ → Bool
power_code u = eqb u 0x14 || eqb u 0x17 || eqb u 0x1A

-- L/h and m³/h
abbrev pub flow_code : ℕ → Bool
flow_code u = eqb u 0x32 || eqb u 0x35

-- L and m³
abbrev pub volume_code : ℕ → Bool
volume_code u = eqb u 0x29 || eqb u 0x2C

-- 85: a unit that its quantity does not take
abbrev pub wrong_units : CjtAnswer → Bool
wrong_units a =
    not (energy_code a.cold.code) || not (energy_code a.heat.code) || not (power_code a.power.code)
    || not (flow_code a.flow.code) || not (volume_code a.volume.code)
