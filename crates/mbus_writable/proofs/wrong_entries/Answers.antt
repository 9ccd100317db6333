-- `mbus_writable::wrong_entries` meets its contract: what is wrong so far, and with what is left, is what is wrong; the marks say which
-- quantities came.
use native.Mathlib.Omega.{arith}
use Rattle.mbus_rules.proofs.Laws.RowLaws.{quantity_few}
use Rattle.mbus_writable.proofs.Laws.Walks.{walked_none, walked_next, walked_all}
use Rattle.mbus_writable.proofs.wrong_entries.Goals as goal

pub loop-entry-init : goal.loop-entry-init
loop-entry-init c = walked_none _

pub loop-entry-preserved : goal.loop-entry-preserved
loop-entry-preserved c = rw (c.wrong_entry.ensures, c.quantity_of-quantity.ensures) (walked_next c.loop-entry.invariant _ c.loop-entry-test.true)

pub returns : goal.returns
returns c = rw c.any_missing.ensures (walked_all c.loop-entry.invariant (omega arith))

pub bounds-seen-quantity : goal.bounds-seen-quantity
bounds-seen-quantity c = rw c.quantity_of-quantity.ensures (quantity_few _)

pub bounds-seen-quantity-in-loop-entry : goal.bounds-seen-quantity-in-loop-entry
bounds-seen-quantity-in-loop-entry c = rw c.quantity_of-quantity.ensures (quantity_few _)
