-- Laws of `specs/Values`.
use mathlib.Core.Path.{◌≡◌, refl}
use lib.Count.{ones_in}
use Rattle.base_characters.specs.Characters.{odd}
use Rattle.base_rules.specs.Lists.{any}
use Rattle.mbus_rules.specs.Lines.{read_line, read_body}
use Rattle.exchange_steps.specs.declared.Cause.TheVariants.{Silent}
use Rattle.exchange_steps.specs.declared.State.TheVariants.{Resend, Well}
use Rattle.exchange_steps.specs.Histories.{run}
use Rattle.exchange_steps.specs.Values.{heard_after, entered_by}

-- A fitting line at 450 is taken; at 451 it is silence.
pub value_13 : (heard_after 450 ≡ entered_by Well 450) × (heard_after 451 ≡ entered_by (Resend Silent) 451)
unfolding run read_line read_body any odd ones_in
value_13 = (refl, refl)
