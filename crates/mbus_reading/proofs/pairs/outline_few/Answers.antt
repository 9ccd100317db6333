-- `mbus_reading::pairs::outline_few` meets its contract: few characters by their shape.
use Prim.Native.Nat.{ℕ}
use native.Mathlib.Omega.{arith}
use mathlib.Core.Path.{sym, ap, ◌∙◌}
use lib.ListN.{take}
use Rattle.base_characters.specs.Characters.{chars}
use Rattle.mbus_rules.specs.Outlines.{outlined}
use Rattle.base_characters.proofs.Laws.PairLaws.{length_characters}
use Rattle.mbus_reading.proofs.Laws.TakingLaws.{few_as, none_is, cut_count}
use Rattle.mbus_reading.proofs.Laws.FewLaws.{few_is}
use Rattle.mbus_reading.proofs.pairs.outline_few.Goals as goal

pub returns-then-count-eq0 : goal.returns-then-count-eq0
returns-then-count-eq0 c =
    let b = c.args.bytes.now in
    ap outlined (sym (none_is (chars b) (length_characters b ∙ c.if-count-eq0.true)))

pub slice_bounds-brief_shape-end : goal.slice_bounds-brief_shape-end
slice_bounds-brief_shape-end c =
    let b = c.args.bytes.now in
    let s = chars b in
    let low = c.take_few.new.out in
    let t = few_as s low c.in-Ok.is c.take_few.ensures in
    cut_count s low (sym (length_characters b)) (ap (λ (n : ℕ). take n low) (sym (length_characters b)) ∙ t.1)

pub returns-in-Ok : goal.returns-in-Ok
returns-in-Ok c =
    let b = c.args.bytes.now in
    let s = chars b in
    let low = c.take_few.new.out in
    let size = length_characters b in
    few_is s low (omega (arith, size, c.requires)) (sym size) (few_as s low c.in-Ok.is c.take_few.ensures) c.brief_shape.ensures

pub returns-in-Err : goal.returns-in-Err
returns-in-Err c = ap outlined (sym (few_as (chars c.args.bytes.now) c.take_few.new.out c.in-Err.is c.take_few.ensures))
