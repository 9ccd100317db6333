-- `cjt_writing::bytes::quantities_bytes` meets its contract: the values so far lie one behind the other.
use mathlib.Core.Path.{◌≡◌, refl, sym, ◌∙◌}
use native.Mathlib.Omega.{arith}
use lib.ListN.{length}
use native.Mathlib.Nat.{zero-add}
use borrow.Author.Rules.{rules}
use Rattle.base_lent.proofs.Laws.PieceLaws.{pieced_none, pieced_length, pieced_next, pieced_full}
use Rattle.cjt_writing.proofs.Laws.Framing.{quantity_length}
use Rattle.cjt_writing.proofs.bytes.quantities_bytes.Goals as goal

pub loop-i-init : goal.loop-i-init
loop-i-init c = pieced_none quantity_length (search rules)

pub slice_bounds-lay-end : goal.slice_bounds-lay-end
slice_bounds-lay-end c = sym (pieced_length c.loop-i.invariant)

pub loop-i-preserved : goal.loop-i-preserved
loop-i-preserved c =
    let five : length c.args.values ≡ 5 = search rules in
    pieced_next c.loop-i.invariant (omega arith) _ c.quantity_bytes.ensures (c.lay.ensures ∙ sym (rw zero-add))

pub returns : goal.returns
returns c = pieced_full c.loop-i.invariant (search rules) refl (search rules)
