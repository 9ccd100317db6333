-- 01, "The exchange": which reply fits which request, whatever the state and the time.
use Rattle.std.specs.Prelude.{ℕ, Bool, true, false, ◌||◌, eqb}
use Rattle.mbus_rules.specs.declared.Request.{Request}
use Rattle.mbus_rules.specs.declared.Request.TheVariants.{Read, Enter, Leave}
use Rattle.mbus_rules.specs.declared.Outline.{Outline}
use Rattle.mbus_rules.specs.declared.Outline.TheVariants.{Refused, Ack, Asks, Data}

-- Ack fits enter and leave.
abbrev pub ack_fits : Request → Bool
ack_fits (Read asked) = false
ack_fits (Enter asked method) = true
ack_fits (Leave asked) = true

-- Data fits read if the asked address is FE or equals the answer's.
abbrev pub data_fits : Request → ℕ → Bool
data_fits (Read asked) answers = eqb asked 0xFE || eqb asked answers
data_fits (Enter asked method) answers = false
data_fits (Leave asked) answers = false

-- Nothing else fits.
abbrev pub fits : Request → Outline → Bool
fits request (Refused n) = false
fits request Ack = ack_fits request
fits request (Asks other) = false
fits request (Data answers) = data_fits request answers
