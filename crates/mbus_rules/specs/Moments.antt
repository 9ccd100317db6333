-- 01, "Time, 6 bytes", with the weekday of 02, 2026-03.
use Rattle.std.specs.Prelude.{ℕ, ◌+◌, ◌*◌, ◌/◌, ◌%◌, Bool, not, ◌&&◌, ◌||◌, List, ltb, leb}
use Rattle.mbus_rules.specs.declared.Moment.{Moment}
use Rattle.base_rules.specs.Lists.{at}
use Rattle.base_calendar.specs.Months.{days_in}

-- Byte 1 second in bits 0–5; byte 2 minute in bits 0–5; byte 3 hour in bits 0–4; byte 4 day in bits 0–4 and the low three
-- bits of the year in bits 5–7; byte 5 month in bits 0–3 and the high four bits of the year in bits 4–7.
-- 02, 2026-03: byte 3 the day of the week in bits 5–7, 1 for Monday to 7 for Sunday, 0 for not said.
abbrev pub moment_of : List ℕ → Moment
moment_of b = record {
  year = at b 4 / 16 * 8 + at b 3 / 32;
  month = at b 4 % 16;
  day = at b 3 % 32;
  hour = at b 2 % 32;
  minute = at b 1 % 64;
  second = at b 0 % 64;
  weekday = at b 2 / 32;
}

-- Byte 6 zero. The remaining spare bits stay zero (02, 2026-03): this is the test that one of them is not.
abbrev pub spare_bits : List ℕ → Bool
spare_bits b = ltb 63 (at b 0) || ltb 63 (at b 1) || ltb 0 (at b 5)

-- The date must exist in the Gregorian calendar; year 0 to 99 means 2000 to 2099.
abbrev pub date_exists : Moment → Bool
date_exists m =
    ltb m.year 100 && (ltb 0 m.month && ltb m.month 13)
    && (ltb 0 m.day && leb m.day (days_in (2000 + m.year) m.month))

-- Second 0–59, minute 0–59, hour 0–23.
abbrev pub time_exists : Moment → Bool
time_exists m = ltb m.second 60 && ltb m.minute 60 && ltb m.hour 24

-- 02, 2026-03: 0 for not said, 1 for Monday to 7 for Sunday. It is not compared with the date. Bits 5–7 hold no other number, so that
-- reading does not ask this; a telegram of the caller's may break it.
abbrev pub weekday_exists : Moment → Bool
weekday_exists m = ltb m.weekday 8

-- the rule of a point in time is broken
unfoldable pub wrong_moment : List ℕ → Bool
wrong_moment b = spare_bits b || not (date_exists (moment_of b)) || not (time_exists (moment_of b))
