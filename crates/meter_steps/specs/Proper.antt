-- Whatever happens to a meter that was set up: each of its answers can be written and read back, and comes from its own address.
use Rattle.std.specs.Prelude.{ℕ, false, ◌⊎◌, ◌≡◌}
use Rattle.base_rules.specs.Answers.{reads}
use Rattle.mbus_rules.specs.Lines.{read_line}
use Rattle.mbus_rules.specs.Telegrams.{ack}
use Rattle.mbus_rules.specs.Writing.{line_of, unwritable}
use Rattle.meter_steps.specs.Meters.{Said, silence, says}

-- silence, or a telegram that can be written, whose line reads as it, and that is the ack or comes from the address
abbrev pub Proper : ℕ → Said → Type 0
Proper a silence = Unit {0}
Proper a (says x) = (unwritable x ≡ false) × (read_line (line_of x) ≡ reads x) × ((x ≡ ack) ⊎ (x.address ≡ a))
