-- `base_characters::line::soundness_of` meets its contract: each character is looked at for both tests.
use Rattle.std.proofs.Common.{refl, ◌∙◌}
use Rattle.base_characters.proofs.Laws.FlagLaws.{flagged_none, flagged_next, flagged_all}
use Rattle.base_characters.proofs.line.soundness_of.Goals as goal

pub loop-character-init : goal.loop-character-init
loop-character-init c = flagged_none

pub loop-character-preserved : goal.loop-character-preserved
loop-character-preserved c = flagged_next _ c.loop-character.invariant c.loop-character-test.true refl c.folded-flags.ensures

pub returns : goal.returns
returns c = c.told_by.ensures ∙ flagged_all _ _ c.loop-character.invariant c.loop-character-test.false
