-- `mbus_reading::pairs::take_few` meets its contract: it leaves at the first character that is not sound.
use Prim.Native.Nat.{ℕ, ◌*◌}
use native.Mathlib.Omega.{arith}
use mathlib.Core.Path.{sym, ap, ◌∙◌}
use borrow.Author.Tests.{lt-ltb, le-ltb}
use mathlib.Core.List.{List}
use Rattle.base_rules.specs.Lists.{any}
use Rattle.base_characters.specs.Characters.{over, chars}
use Rattle.base_lent.proofs.Laws.Copying.{copied_length}
use Rattle.base_rules.proofs.Laws.ListLaws.{rest_is}
use Rattle.mbus_reading.proofs.Laws.FewLaws.{walked_none, walked_over, walked_odd, walked_next, walked_all}
use Rattle.mbus_reading.proofs.pairs.take_few.Goals as goal

pub loop-i-init : goal.loop-i-init
loop-i-init c = walked_none c.requires

pub shape_of-out-then-c-gt511 : goal.shape_of-out-then-c-gt511
shape_of-out-then-c-gt511 c = copied_length c.loop-i.invariant.stored

pub returns-then-c-gt511 : goal.returns-then-c-gt511
returns-then-c-gt511 c = walked_over c.loop-i.invariant c.loop-i-test.true c.character_at-c.ensures
    (lt-ltb 511 _ c.if-c-gt511.true)

pub overflow_mul-i : goal.overflow_mul-i
overflow_mul-i c = omega arith

pub slice_bounds-any_over-count : goal.slice_bounds-any_over-count
slice_bounds-any_over-count c = omega arith

pub slice_bounds-any_over-start : goal.slice_bounds-any_over-start
slice_bounds-any_over-start c = omega arith

pub shape_of-out-then-over : goal.shape_of-out-then-over
shape_of-out-then-over c =
    copied_length c.loop-i.invariant.stored

pub returns-then-over : goal.returns-then-over
returns-then-over c =
    let b = c.args.bytes.now in
    walked_odd c.loop-i.invariant
    c.loop-i-test.true c.character_at-c.ensures
    c.counts_odd.ensures c.if-counts_odd.true
    (sym c.if-over.true ∙ c.any_over-over.ensures ∙ ap (λ (l : List ℕ). any over (chars l))
    (rest_is b (2 * c.loop-i.i)))

pub shape_of-out-else-over : goal.shape_of-out-else-over
shape_of-out-else-over c =
    copied_length c.loop-i.invariant.stored

pub returns-else-over : goal.returns-else-over
returns-else-over c =
    let b = c.args.bytes.now in
    walked_odd c.loop-i.invariant
    c.loop-i-test.true c.character_at-c.ensures
    c.counts_odd.ensures c.if-counts_odd.true
    (sym c.if-over.false ∙ c.any_over-over.ensures ∙ ap (λ (l : List ℕ). any over (chars l))
    (rest_is b (2 * c.loop-i.i)))

pub bounds-out-i : goal.bounds-out-i
bounds-out-i c =
    let n = copied_length c.loop-i.invariant.stored in omega
    (arith, c.requires.1)

pub loop-i-smaller : goal.loop-i-smaller
loop-i-smaller c = omega arith

pub loop-i-preserved : goal.loop-i-preserved
loop-i-preserved c =
    walked_next c.loop-i.invariant c.loop-i-test.true
    c.character_at-c.ensures (le-ltb 511 _ c.if-c-gt511.false) c.counts_odd.ensures
    c.if-counts_odd.false

pub shape_of-out : goal.shape_of-out
shape_of-out c = copied_length c.loop-i.invariant.stored

pub returns : goal.returns
returns c = walked_all c.loop-i.invariant c.loop-i-test.false
