-- `run_calendar::year_days` meets its contract.
use native.Mathlib.Omega.{arith}
use Rattle.run_calendar.proofs.Laws.Years.{years_counted}
use borrow.Author.Rules.{rules}
use Rattle.run_calendar.proofs.year_days.Goals as goal

pub returns : goal.returns
returns c = (omega (arith, years_counted c.args.years), search rules)
