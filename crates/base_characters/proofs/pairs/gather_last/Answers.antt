-- `base_characters::pairs::gather_last` meets its contract: one loop over a block, of which the end alone counts.
use Rattle.std.proofs.Common.{◌+◌, ◌-◌, ◌≤◌, length, take, sym, refl, ◌∙◌, arith, length-take-le, get_or-take}
use Rattle.base_characters.specs.Characters.{chars}
use Rattle.base_characters.proofs.Laws.PairLaws.{length_characters}
use Rattle.base_characters.proofs.Laws.PartLaws.{last_none, last_turn, last_all}
use Rattle.base_characters.proofs.pairs.gather_last.Goals as goal

pub loop-j-init : goal.loop-j-init
loop-j-init c =
    let a = c.args in
    let pre = c.requires in
    let l = chars a.bytes.now in
    let to : a.count ≤ length l = omega (arith, pre.1, length_characters a.bytes.now) in
    last_none (take a.count l) (length-take-le a.count l to) pre.0 pre.2

pub loop-j-preserved : goal.loop-j-preserved
loop-j-preserved c =
    let a = c.args in
    let pre = c.requires in
    let l = chars a.bytes.now in
    let to : a.count ≤ length l = omega (arith, pre.1, length_characters a.bytes.now) in
    let test = c.loop-j-test.true in
    let i = a.count - 16 + c.loop-j.j in
    (last_turn (take a.count l) (length-take-le a.count l to) pre.0 c.loop-j.invariant test
    (c.pair_at-d.ensures ∙ sym (get_or-take a.count l i 0 (omega (arith, pre.0, test)))) refl c.folded-flags.ensures)

pub returns : goal.returns
returns c =
    let a = c.args in
    let pre = c.requires in
    let l = chars a.bytes.now in
    let to : a.count ≤ length l = omega (arith, pre.1, length_characters a.bytes.now) in
    last_all (take a.count l) (length-take-le a.count l to) pre.0 c.loop-j.invariant c.loop-j-test.false
