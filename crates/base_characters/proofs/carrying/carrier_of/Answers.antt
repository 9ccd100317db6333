-- `base_characters::carrying::carrier_of` meets its contract: folding gives the parity of the eight bits.
use Rattle.std.proofs.Common.{rules}
use Rattle.base_characters.proofs.Laws.Carrying.{carrier_folded}
use Rattle.base_characters.proofs.carrying.carrier_of.Goals as goal

pub returns : goal.returns
returns c = carrier_folded c.args.byte (search rules)
