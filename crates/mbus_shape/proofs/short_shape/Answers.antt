-- `mbus_shape::short_shape` meets its contract.
use Rattle.std.proofs.Common.{eq-eqb, ne_eqb}
use Rattle.mbus_shape.proofs.short_shape.Goals as goal

pub returns-then-control-eq91 : goal.returns-then-control-eq91
returns-then-control-eq91 c = rw (eq-eqb _ _ c.if-control-eq91.true)

pub returns : goal.returns
returns c = rw (ne_eqb _ _ c.if-control-eq91.false)
