-- 01, "The bench host": the answer is 1 ack, 2 read, 3 enter, 4 leave, 5 data, or 256 plus the refusal number.
use Rattle.std.specs.Prelude.{ℕ, ◌+◌}
use Rattle.mbus_rules.specs.declared.Request.TheVariants.{Read, Enter, Leave}
use Rattle.mbus_rules.specs.declared.Outline.{Outline}
use Rattle.mbus_rules.specs.declared.Outline.TheVariants.{Refused, Ack, Asks, Data}

-- the same by the outline of a line
abbrev pub outline_number : Outline → ℕ
outline_number (Refused n) = 256 + n
outline_number Ack = 1
outline_number (Asks (Read a)) = 2
outline_number (Asks (Enter a s)) = 3
outline_number (Asks (Leave a)) = 4
outline_number (Data a) = 5
