-- `base_characters::line::soundness_of` meets its contract: each character is looked at for both tests.
use Rattle.std.proofs.Common.{take}
use Rattle.base_characters.specs.Gathering.{Flagged}
use Rattle.base_characters.proofs.line.soundness_of.Given as goal

abbrev pub invariant-loop-character : goal.invariant-loop-character
invariant-loop-character l = Flagged (take l.character-index l.line) l.flags
