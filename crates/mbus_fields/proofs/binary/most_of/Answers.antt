-- `mbus_fields::binary::most_of` meets its contract.
use Prim.Native.Nat.{◌+◌, ◌*◌, ◌-◌, ◌/◌, ◌^◌, min}
use mathlib.Core.Path.{◌≡◌}
use native.Mathlib.Omega.{arith}
use Rattle.mbus_fields.proofs.Laws.CodeLaws.{mark_none, mark_most, word_wide}
use Rattle.mbus_fields.proofs.binary.most_of.Goals.{Else-mark-lt15}
use Rattle.mbus_fields.proofs.binary.most_of.Goals as goal

pub returns-then-mark-lt15 : goal.returns-then-mark-lt15
returns-then-mark-lt15 c = mark_none (min c.args.width 8) (rw c.mark_of-mark.ensures at c.if-mark-lt15.true)

-- fifteen sixteenths, and one more
most : (c : Else-mark-lt15) → (c.mark_of-mark.result / 15 - 1) * 16 + 15 ≡ 256 ^ min c.args.width 8 - 1
most c =
    rw c.mark_of-mark.ensures (mark_most (min c.args.width 8) (rw c.mark_of-mark.ensures at c.if-mark-lt15.false))

pub overflow_mul-result : goal.overflow_mul-result
overflow_mul-result c = omega (arith, most (goal.at.overflow_mul-result c).Else-mark-lt15, word_wide c.args.width)

pub overflow_add-result : goal.overflow_add-result
overflow_add-result c = omega (arith, most (goal.at.overflow_add-result c).Else-mark-lt15, word_wide c.args.width)

pub returns : goal.returns
returns c = most (goal.at.returns c).Else-mark-lt15
