-- `base_characters::pairs::any_over` meets its contract: the loop looks at each character.
use Rattle.base_characters.proofs.Laws.PairLaws.{characters_next, characters_all}
use Rattle.base_characters.proofs.pairs.any_over.Goals as goal

pub loop-i-preserved : goal.loop-i-preserved
loop-i-preserved c =
    characters_next c.args.bytes.now c.loop-i.invariant c.loop-i-test.true
    c.pair_at.ensures

pub returns : goal.returns
returns c = characters_all c.args.bytes.now c.loop-i.invariant c.loop-i-test.false
