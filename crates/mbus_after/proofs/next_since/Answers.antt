-- `mbus_after::next_since` meets its contract: past the last time there is none to pass.
use native.Mathlib.Omega.{arith}
use Rattle.mbus_after.proofs.Laws.Walks.{early_end}
use Rattle.mbus_after.proofs.next_since.Goals as goal

pub returns-then-times-from : goal.returns-then-times-from
returns-then-times-from c = omega (arith, early_end c.args.t c.args.times.now c.args.from c.if-times-from.true)
