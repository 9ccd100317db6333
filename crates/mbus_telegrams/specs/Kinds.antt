-- The host's number of a kind, read back.
use Rattle.std.specs.Prelude.{ℕ, cond, eqb}
use Rattle.mbus_rules.specs.declared.Kind.{Kind}
use Rattle.mbus_rules.specs.declared.Kind.TheVariants.{Ack, Read, Enter, Leave, Data}

-- the kind of a number, data for a number of none
abbrev pub kind_in : ℕ → Kind
kind_in n = cond (eqb n 1) Ack (cond (eqb n 2) Read (cond (eqb n 3) Enter (cond (eqb n 4) Leave Data)))
