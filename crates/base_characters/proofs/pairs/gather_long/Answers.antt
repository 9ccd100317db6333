-- `base_characters::pairs::gather_long` meets its contract: both parts together are all.
use Rattle.std.proofs.Common.{◌-◌, ◌*◌, ◌/◌, ◌≤◌, length, ◌∙◌, arith}
use Rattle.base_characters.specs.Characters.{chars}
use Rattle.base_characters.proofs.Laws.PairLaws.{length_characters}
use Rattle.base_characters.proofs.Laws.PartLaws.{parts_told, parts_over}
use Rattle.base_characters.proofs.pairs.gather_long.Goals as goal

pub returns : goal.returns
returns c =
    let a = c.args in
    let l = chars a.bytes.now in
    let le : a.count / 16 * 16 ≤ a.count = omega arith in
    let to : a.count ≤ length l = omega (arith, c.requires.1, length_characters a.bytes.now) in
    let rest = c.gather_last-rest.ensures in
    let blocks = c.gather_blocks-blocks.ensures in
    let before : a.count - 16 ≤ a.count / 16 * 16 = omega arith in (
      c.told_of.ensures ∙ parts_told l le to blocks.0 rest.0,
      parts_over l le to a.out.now c.requires.2 (a.count - 16) before rest.1 blocks.1,
    )
