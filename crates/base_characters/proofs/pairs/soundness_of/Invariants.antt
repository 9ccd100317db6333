-- `base_characters::pairs::soundness_of` meets its contract, as the walk over characters does.
use Rattle.std.proofs.Common.{take}
use Rattle.base_characters.specs.Characters.{chars}
use Rattle.base_characters.specs.Gathering.{Flagged}
use Rattle.base_characters.proofs.pairs.soundness_of.Given as goal

abbrev pub invariant-loop-i : goal.invariant-loop-i
invariant-loop-i l = Flagged (take l.i (chars l.bytes)) l.flags
