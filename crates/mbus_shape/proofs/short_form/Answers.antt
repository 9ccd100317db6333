-- `mbus_shape::short_form` meets its contract, rule by rule.
use Rattle.std.proofs.Common.{arith}
use Rattle.mbus_shape.proofs.Laws.ShapeLaws.{short_is}
use Rattle.mbus_shape.proofs.short_form.Goals as goal

pub wrong_end-requires : goal.wrong_end-requires
wrong_end-requires c = omega (arith, c.requires.five)

pub returns-then-wrong_end : goal.returns-then-wrong_end
returns-then-wrong_end c = rw (short_is c.requires, ← c.wrong_end.ensures, c.if-wrong_end.true)

pub wrong_sum-requires : goal.wrong_sum-requires
wrong_sum-requires c =
    omega (arith, c.requires.five)

pub returns-then-wrong_sum : goal.returns-then-wrong_sum
returns-then-wrong_sum c =
    rw (
      short_is c.requires,
      ← c.wrong_end.ensures,
      c.if-wrong_end.false,
      ← c.byte_at-control.ensures,
      ← c.byte_at-address.ensures,
    )
    (rw (← c.wrong_sum.ensures, c.if-wrong_sum.true))

pub returns : goal.returns
returns c =
    rw (
      short_is c.requires,
      ← c.wrong_end.ensures,
      c.if-wrong_end.false,
      ← c.byte_at-control.ensures,
      ← c.byte_at-address.ensures,
    )
    (rw (← c.wrong_sum.ensures, c.if-wrong_sum.false) c.short_shape.ensures)
