-- `mbus_shape::long_shape` meets its contract: a command, data, or 9.
use Rattle.std.proofs.Common.{eq-eqb, ne_eqb}
use Rattle.mbus_shape.proofs.long_shape.Goals as goal

pub returns-then-s-eq-NO_METHOD : goal.returns-then-s-eq-NO_METHOD
returns-then-s-eq-NO_METHOD c =
    rw (
      ← c.is_command.ensures,
      c.if-is_command.true,
      ← c.byte_at-s.ensures,
      eq-eqb _ _ c.if-s-eq-NO_METHOD.true,
      ← c.byte_at-address.ensures,
    )

pub returns-then-is_command : goal.returns-then-is_command
returns-then-is_command c =
    rw (
      ← c.is_command.ensures,
      c.if-is_command.true,
      ← c.byte_at-s.ensures,
      ne_eqb _ _ c.if-s-eq-NO_METHOD.false,
      ← c.byte_at-address.ensures,
    )

pub returns-then-is_data : goal.returns-then-is_data
returns-then-is_data c =
    rw (
      ← c.is_command.ensures,
      c.if-is_command.false,
      ← c.is_data.ensures,
      c.if-is_data.true,
      ← c.byte_at-address.ensures,
    )

pub returns : goal.returns
returns c = rw (← c.is_command.ensures, c.if-is_command.false, ← c.is_data.ensures, c.if-is_data.false)
