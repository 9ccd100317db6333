-- `base_characters::pairs::soundness_of` meets its contract, as the walk over characters does.
use Rattle.std.proofs.Common.{◌∙◌, arith}
use Rattle.base_characters.specs.Characters.{chars}
use Rattle.base_characters.proofs.Laws.FlagLaws.{flagged_none, flagged_next, flagged_all}
use Rattle.base_characters.proofs.Laws.PairLaws.{length_characters}
use Rattle.base_characters.proofs.pairs.soundness_of.Goals as goal

pub loop-i-init : goal.loop-i-init
loop-i-init c = flagged_none

pub loop-i-preserved : goal.loop-i-preserved
loop-i-preserved c =
    let b = c.args.bytes.now in
    flagged_next (chars b) c.loop-i.invariant (omega (arith, length_characters b)) c.pair_at.ensures c.folded-flags.ensures

pub returns : goal.returns
returns c =
    let b = c.args.bytes.now in
    c.told_by.ensures ∙ flagged_all (chars b) c.loop-i.i c.loop-i.invariant (omega (arith, length_characters b))
