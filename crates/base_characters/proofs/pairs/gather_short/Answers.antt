-- `base_characters::pairs::gather_short` meets its contract: both parts together are all.
use Rattle.std.proofs.Common.{◌*◌, ◌/◌, ◌≤◌, length, ◌∙◌, arith}
use Rattle.base_characters.specs.Characters.{chars}
use Rattle.base_characters.proofs.Laws.PairLaws.{length_characters}
use Rattle.base_characters.proofs.Laws.PartLaws.{parts_told, parts_on}
use Rattle.base_characters.proofs.pairs.gather_short.Goals as goal

pub returns : goal.returns
returns c =
    let a = c.args in
    let l = chars a.bytes.now in
    let le : a.count / 8 * 8 ≤ a.count = omega arith in
    let to : a.count ≤ length l = omega (arith, c.requires.0, length_characters a.bytes.now) in
    let blocks = c.gather_blocks-blocks.ensures in
    let rest = c.gather_few-rest.ensures in
    (c.told_of.ensures ∙ parts_told l le to blocks.0 rest.0, parts_on l le to a.out.now c.requires.1 blocks.1 rest.1)
