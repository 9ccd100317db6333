-- `base_characters::pairs::gather_few` meets its contract: one loop looks at each character for range, parity and sum.
use Rattle.std.proofs.Common.{◌-◌, ◌+◌, ◌≡◌, ◌≤◌, length, take, drop, sym, ap, ◌∙◌, arith}
use Rattle.base_rules.specs.Lists.{at}
use Rattle.base_characters.specs.Characters.{chars}
use Rattle.base_characters.proofs.Laws.PairLaws.{length_characters}
use Rattle.base_characters.proofs.Laws.PartLaws.{part_length, part_at}
use Rattle.base_characters.proofs.Laws.WalkLaws.{walk_none, walk_turn, walk_parted, walk_stored}
use Rattle.base_characters.proofs.pairs.gather_few.Goals as goal

pub loop-i-init : goal.loop-i-init
loop-i-init c =
    let a = c.args in
    let pre = c.requires in
    let l = chars a.bytes.now in
    let to : a.count ≤ length l = omega (arith, pre.1, length_characters a.bytes.now) in
    let none : a.from - a.from ≡ 0 = omega arith in
    rw none (walk_none (omega (arith, pre.0, pre.2, part_length l a.from to)))

pub loop-i-preserved : goal.loop-i-preserved
loop-i-preserved c =
    let a = c.args in
    let l = chars a.bytes.now in
    let to : a.count ≤ length l = omega (arith, c.requires.1, length_characters a.bytes.now) in
    let test = c.loop-i-test.true in
    let i = c.loop-i.i in
    let behind : a.from ≤ i = c.loop-i.auto.i in
    let place : i ≡ a.from + (i - a.from) = omega arith in
    (walk_turn c.loop-i.invariant (omega (arith, test, part_length l a.from to))
    (c.pair_at-c.ensures ∙ ap (at l) place ∙ sym (part_at l a.from to (i - a.from) (omega (arith, test))))
    c.counted-flags.ensures place (omega arith))

pub returns : goal.returns
returns c =
    let a = c.args in
    let l = chars a.bytes.now in
    let to : a.count ≤ length l = omega (arith, c.requires.1, length_characters a.bytes.now) in
    let end : length (drop a.from (take a.count l)) ≤ c.loop-i.i - a.from = omega (arith, c.loop-i-test.false, part_length l a.from to) in
    (walk_parted c.loop-i.invariant end, walk_stored c.loop-i.invariant end)
