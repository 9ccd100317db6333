-- `mbus_reading::taking::far_of` meets its contract.
use Rattle.mbus_reading.proofs.taking.far_of.Goals as goal

pub returns-then-wrong_start : goal.returns-then-wrong_start
returns-then-wrong_start c = rw (c.in_default.is, ← c.wrong_start.ensures, c.if-wrong_start.true)

pub returns : goal.returns
returns c = rw (c.in_default.is, ← c.wrong_start.ensures, c.if-wrong_start.false)
