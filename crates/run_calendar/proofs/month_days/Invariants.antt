-- `run_calendar::month_days` meets its contract: the loop adds the days of one month after the other.
use Prim.Native.Nat.{◌+◌, ◌*◌, ◌≤◌}
use mathlib.Core.Path.{◌≡◌}
use Rattle.run_calendar.specs.Days.{month_days}
use Rattle.run_calendar.proofs.month_days.Given as goal

abbrev pub invariant-loop-month : goal.invariant-loop-month
invariant-loop-month l = (l.month ≤ l.months) × (l.days ≡ month_days (2000 + l.year) l.month) × (l.days ≤ 255 * l.month)
