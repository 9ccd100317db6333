-- `base_characters::pairs::gather_blocks` meets its contract: one loop looks at each character for range, parity and sum.
use Rattle.std.proofs.Common.{◌≤◌, length, take, sym, ◌∙◌, arith, length-take-le, get_or-take}
use Rattle.base_characters.specs.Characters.{chars}
use Rattle.base_characters.proofs.Laws.PairLaws.{length_characters}
use Rattle.base_characters.proofs.Laws.WalkLaws.{walk_none, walk_first, walk_parted, walk_stored}
use Rattle.base_characters.proofs.pairs.gather_blocks.Goals as goal

pub loop-i-init : goal.loop-i-init
loop-i-init c =
    let a = c.args in
    let l = chars a.bytes.now in
    let to : a.whole ≤ length l = omega (arith, c.requires.0, length_characters a.bytes.now) in
    walk_none (omega (arith, c.requires.1, length-take-le a.whole l to))

pub loop-i-preserved : goal.loop-i-preserved
loop-i-preserved c =
    let a = c.args in
    let l = chars a.bytes.now in
    let most : a.whole ≤ length l = omega (arith, c.requires.0, length_characters a.bytes.now) in
    let i = c.loop-i.i in
    (walk_first c.loop-i.invariant (omega (arith, c.loop-i-test.true, length-take-le a.whole l most))
    (c.pair_at-c.ensures ∙ sym (get_or-take a.whole l i 0 c.loop-i-test.true)) c.folded-flags.ensures)

pub returns : goal.returns
returns c =
    let a = c.args in
    let l = chars a.bytes.now in
    let most : a.whole ≤ length l = omega (arith, c.requires.0, length_characters a.bytes.now) in
    let end : length (take a.whole l) ≤ c.loop-i.i = omega (arith, c.loop-i-test.false, length-take-le a.whole l most) in
    (walk_parted c.loop-i.invariant end, walk_stored c.loop-i.invariant end)
