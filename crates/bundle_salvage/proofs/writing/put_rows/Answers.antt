-- `bundle_salvage::writing::put_rows` meets its contract: so many rows are laid.
use Prim.Native.Nat.{◌-◌}
use mathlib.Core.Path.{ap}
use native.Mathlib.Omega.{arith}
use Rattle.base_lent.proofs.Laws.PieceLaws.{pieced_length}
use Rattle.bundle_rows.specs.declared.Row.{Row}
use Rattle.bundle_salvage.proofs.Laws.NewBundle.{offset_room, lowered_none, lowered_next, lowered_all}
use Rattle.bundle_salvage.proofs.writing.put_rows.Goals as goal

pub overflow_sub-fewer : goal.overflow_sub-fewer
overflow_sub-fewer c = c.requires.0.part

pub overflow_mul-fewer : goal.overflow_mul-fewer
overflow_mul-fewer c = let p = c.requires.0 in omega (arith, p.part, p.whole.few)

pub overflow_cast-fewer : goal.overflow_cast-fewer
overflow_cast-fewer c = let p = c.requires.0 in omega (arith, p.part, p.whole.few)

pub loop-i-init : goal.loop-i-init
loop-i-init c =
    lowered_none c.args.damaged.now c.args.kept c.args.count c.requires.0 c.args.out.now c.requires.1

pub overflow_sub-offset : goal.overflow_sub-offset
overflow_sub-offset c =
    omega (
      arith,
      offset_room c.args.damaged.now c.args.kept c.args.count c.requires.0 c.loop-i.i
          c.loop-i-test.true,
      ap (λ (r : Row). r.offset) c.unchecked_row-row.ensures,
    )

pub overflow_mul-i : goal.overflow_mul-i
overflow_mul-i c =
    omega (arith, c.requires.0.part, c.requires.0.whole.few)

pub overflow_add-i : goal.overflow_add-i
overflow_add-i c =
    omega (arith, c.requires.0.part, c.requires.0.whole.few)

pub loop-i-preserved : goal.loop-i-preserved
loop-i-preserved c =
    lowered_next c.args.damaged.now c.args.kept c.args.count c.requires.0 c.loop-i.invariant
    c.loop-i-test.true
    c.unchecked_row-row.ensures c.row_bytes-bytes.ensures c.lay_each.ensures

pub shape_of-out : goal.shape_of-out
shape_of-out c = pieced_length c.loop-i.invariant

pub returns : goal.returns
returns c =
    lowered_all c.args.damaged.now c.args.kept c.args.count c.requires.0 c.loop-i.invariant c.loop-i-test.false
