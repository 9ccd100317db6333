-- `mbus_shape::first::left_early` meets its contract.
use Rattle.std.proofs.Common.{le_of_suc-le-suc, le-ltb}
use lib.ListN.{length-map}
use Rattle.mbus_shape.proofs.first.left_early.Goals as goal

pub returns-then-first-second : goal.returns-then-first-second
returns-then-first-second c = rw (length-map, c.requires.0, ← c.low_at-second.ensures, ← c.low_at-third.ensures, c.if-first-second.true)

pub returns : goal.returns
returns c = rw (
  length-map,
  c.requires.0,
  ← c.low_at-second.ensures,
  ← c.low_at-third.ensures,
  c.if-first-second.false,
  le-ltb 3 _ (le_of_suc-le-suc c.requires.1),
)
