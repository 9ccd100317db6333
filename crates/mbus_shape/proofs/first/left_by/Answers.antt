-- `mbus_shape::first::left_by` meets its contract, byte by byte.
use Rattle.std.proofs.Common.{lt-ltb, ne_eqb}
use lib.ListN.{length-map}
use Rattle.mbus_shape.proofs.Laws.FirstLaws.{third_there}
use Rattle.mbus_shape.proofs.first.left_by.Goals as goal

pub returns-then-start : goal.returns-then-start
returns-then-start c = rw (← c.low_at-start.ensures, c.if-start.true)

pub returns-then-start-eq-SHORT : goal.returns-then-start-eq-SHORT
returns-then-start-eq-SHORT c = rw (← c.low_at-start.ensures, c.if-start-eq-SHORT.true)

pub returns-then-start-ne-LONG : goal.returns-then-start-ne-LONG
returns-then-start-ne-LONG c = rw (
  ← c.low_at-start.ensures,
  ne_eqb _ _ c.if-start.false,
  ne_eqb _ _ c.if-start-eq-SHORT.false,
  ne_eqb _ _ c.if-start-ne-LONG.true,
)

pub returns-then-second-third : goal.returns-then-second-third
returns-then-second-third c = rw (
  length-map,
  ← c.low_at-start.ensures,
  c.if-start-ne-LONG.false,
  third_there c.if-first-lt4.false,
  lt-ltb 3 _ c.if-first-lt4.false,
  ← c.low_at-second.ensures,
  ← c.low_at-third.ensures,
  ← c.low_at-fourth.ensures,
  c.if-second-third.true,
)

pub returns : goal.returns
returns c = rw (
  length-map,
  ← c.low_at-start.ensures,
  c.if-start-ne-LONG.false,
  third_there c.if-first-lt4.false,
  lt-ltb 3 _ c.if-first-lt4.false,
  ← c.low_at-second.ensures,
  ← c.low_at-third.ensures,
  ← c.low_at-fourth.ensures,
  c.if-second-third.false,
)
