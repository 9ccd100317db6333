-- 01, "Time, 6 bytes": the date must exist in the Gregorian calendar.
use Rattle.std.specs.Prelude.{ℕ, ◌%◌, Bool, cond, not, ◌&&◌, ◌||◌, eqb}

-- The Gregorian calendar: every fourth year is a leap year, of the full hundreds only every fourth.
abbrev pub leap : ℕ → Bool
leap y = eqb (y % 4) 0 && (not (eqb (y % 100) 0) || eqb (y % 400) 0)

abbrev pub february : ℕ → ℕ
february y = cond (leap y) 29 28

abbrev pub short_month : ℕ → Bool
short_month month = eqb month 4 || eqb month 6 || eqb month 9 || eqb month 11

abbrev pub days_in : ℕ → ℕ → ℕ
days_in y month = cond (eqb month 2) (february y) (cond (short_month month) 30 31)
