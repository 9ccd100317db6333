-- 02, 2026-04: the difference of two meter times, turned into milliseconds. Days are counted from 1 January 2000 on.
use Rattle.std.specs.Prelude.{ℕ, zero, suc, ◌+◌, ◌*◌, ◌-◌, cond}
use Rattle.mbus_rules.specs.declared.Moment.{Moment}
use Rattle.base_calendar.specs.Months.{leap, days_in}

-- the days of a year
abbrev pub days_of_year : ℕ → ℕ
days_of_year y = cond (leap y) 366 365

-- the days of so many years from 2000 on
unfoldable pub year_days : ℕ → ℕ
year_days zero = 0
year_days (suc years) = year_days years + days_of_year (2000 + years)

-- the days of the first so many months of a year
unfoldable pub month_days : ℕ → ℕ → ℕ
month_days y zero = 0
month_days y (suc months) = month_days y months + days_in y (suc months)

-- the days before a date; year 0 is 2000, and months and days of a month count from 1
abbrev pub days_before : ℕ → ℕ → ℕ → ℕ
days_before year month day = year_days year + month_days (2000 + year) (month - 1) + (day - 1)

-- the milliseconds of a day before a time of day
abbrev pub clock_milliseconds : ℕ → ℕ → ℕ → ℕ
clock_milliseconds hour minute second = 1000 * (60 * (60 * hour + minute) + second)

-- the milliseconds before a point in time; the weekday, where one is said, has no part in them
abbrev pub milliseconds_at : Moment → ℕ
milliseconds_at m = 86400000 * days_before m.year m.month m.day + clock_milliseconds m.hour m.minute m.second

-- from one point in time to another; 0 where the other is not later
unfoldable pub interval : Moment → Moment → ℕ
interval first last = milliseconds_at last - milliseconds_at first
