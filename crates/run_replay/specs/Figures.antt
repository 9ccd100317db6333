-- 02, 2026-04: volumes are taken in millilitres, of which every unit byte gives a whole number; the meter's times.
use Rattle.std.specs.Prelude.{ℕ, ◌+◌, ◌-◌, ◌*◌, ◌%◌, ◌^◌, cond, List, [], ◌∷◌, eqb, nat_abs}
use Rattle.mbus_rules.specs.declared.Entry.{Entry}
use Rattle.mbus_rules.specs.declared.Moment.{Moment}
use Rattle.mbus_rules.specs.declared.Telegram.{Telegram}
use Rattle.mbus_rules.specs.declared.Value.{Value}
use Rattle.mbus_rules.specs.declared.Value.TheVariants.{Number, Time, Binary}
use Rattle.mbus_rules.specs.Lines.{read_line}
use Rattle.mbus_rules.specs.Moments.{moment_of}
use Rattle.mbus_rules.specs.Quantities.{row_of, quantity_of, volume, time}
use Rattle.mbus_rules.specs.Telegrams.{blank_entry, telegram_read}

-- A volume's value is a count of its last digit, or a number in binary (2026-06), and never below zero; a point in time is none.
abbrev pub volume_count : Value → ℕ
volume_count (Number d) = nat_abs d.count
volume_count (Time m) = 0
volume_count (Binary w) = nat_abs w.count

-- A cubic metre is 10^6 ml: 6 more than the power of ten of a unit byte, which no volume has below 0.
abbrev pub millilitre_power : ℕ → ℕ
millilitre_power u = u % (row_of u).divisor + (6 - (row_of u).less)

-- The volume in millilitres of an entry.
unfoldable pub millilitres : Entry → ℕ
millilitres e = volume_count e.value * 10 ^ millilitre_power e.unit

-- the meter time of a value; a number is none, and zeros stand for it
abbrev pub no_moment : Moment
no_moment = moment_of []

abbrev pub moment_in : Value → Moment
moment_in (Number d) = no_moment
moment_in (Time m) = m
moment_in (Binary w) = no_moment

-- the entry that has the quantity; each comes at most once
unfoldable pub entry_with : ℕ → List Entry → Entry
entry_with q [] = blank_entry
entry_with q (e ∷ es) = cond (eqb (quantity_of e.unit) q) e (entry_with q es)

-- What an answer tells: its volume and its time. An accepted data line has both (16).
pub record Told : Type 0 where
  pub volume : ℕ
  pub time : Moment

abbrev pub told_by : Telegram → Told
told_by t = record { volume = millilitres (entry_with volume t.entries); time = moment_in (entry_with time t.entries).value }

-- what the line of an answer tells
abbrev pub line_tells : List ℕ → Told
line_tells line = told_by (telegram_read (read_line line))
