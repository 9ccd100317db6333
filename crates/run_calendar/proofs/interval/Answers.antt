-- `run_calendar::interval` meets its contract.
use Rattle.run_calendar.specs.Days.{interval}
use Rattle.run_calendar.proofs.interval.Goals as goal

pub returns : goal.returns
unfolding interval
returns c = rw (← c.milliseconds_at.ensures, ← c.milliseconds_at-2.ensures) c.saturating_sub.ensures
