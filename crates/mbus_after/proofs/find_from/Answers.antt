-- `mbus_after::find_from` meets its contract: what was found is so many places further on.
use native.Mathlib.Omega.{arith}
use Rattle.mbus_after.proofs.Laws.Walks.{from_beyond, from_inside}
use Rattle.mbus_after.proofs.find_from.Goals as goal

pub returns-then-capture-place : goal.returns-then-capture-place
returns-then-capture-place c = rw (from_beyond c.args.capture.now c.args.place c.if-capture-place.true)

pub overflow_add-result : goal.overflow_add-result
overflow_add-result c =
    omega (arith, from_inside c.args.capture.now c.args.place c.find_line.ensures c.if-capture-place.false c.in_ok-further.was)
