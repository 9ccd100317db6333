-- 02, 2026-08: "the clock a Gregorian date and time of day, years 0000 to 9999" (001, D35 to D41; 002, YYYYMMDDhhmmss).
use Rattle.std.specs.Prelude.{ℕ, Bool, not, ◌&&◌, ◌||◌, List, [], ◌∷◌, ltb, leb}
use Rattle.base_rules.specs.Lists.{at}
use Rattle.base_digits.specs.Digits.{digits_of}
use Rattle.base_calendar.specs.Months.{days_in}
use Rattle.cjt_rules.specs.declared.CjtClock.{CjtClock}

-- Seven bytes of two digits each, low byte first: second, minute, hour, day, month, and two for the year.
abbrev pub clock_of : List ℕ → CjtClock
clock_of c = record {
  year = digits_of (at c 5 ∷ at c 6 ∷ []);
  month = digits_of (at c 4 ∷ []);
  day = digits_of (at c 3 ∷ []);
  hour = digits_of (at c 2 ∷ []);
  minute = digits_of (at c 1 ∷ []);
  second = digits_of (at c 0 ∷ []);
}

-- The day is one of the calendar, in years 0000 to 9999.
abbrev pub day_exists : CjtClock → Bool
day_exists c =
    ltb c.year 10000 && (ltb 0 c.month && ltb c.month 13) && (ltb 0 c.day && leb c.day (days_in c.year c.month))

-- Second and minute 0 to 59, hour 0 to 23.
abbrev pub hour_exists : CjtClock → Bool
hour_exists c = ltb c.second 60 && ltb c.minute 60 && ltb c.hour 24

abbrev pub wrong_clock : CjtClock → Bool
wrong_clock c = not (day_exists c) || not (hour_exists c)
