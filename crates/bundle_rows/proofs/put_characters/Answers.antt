-- `bundle_rows::put_characters` meets its contract: the loop copies each character.
use Prim.Native.Nat.{◌-◌}
use native.Mathlib.Omega.{arith}
use Rattle.bundle_rows.proofs.Laws.CharacterLaws.{putting_none, putting_next, putting_all}
use Rattle.bundle_rows.proofs.put_characters.Goals as goal

pub loop-i-init : goal.loop-i-init
loop-i-init c = putting_none c.min-count.ensures

pub offset_bounds-line-i : goal.offset_bounds-line-i
offset_bounds-line-i c = omega (arith, c.loop-i.invariant.few)

pub bounds-line-i : goal.bounds-line-i
bounds-line-i c = omega (arith, c.loop-i.invariant.few, c.loop-i.invariant.same)

pub loop-i-preserved : goal.loop-i-preserved
loop-i-preserved c = putting_next c.loop-i.invariant c.loop-i-test.true c.character_at.ensures

pub shape_of-line : goal.shape_of-line
shape_of-line c = c.loop-i.invariant.same

pub returns : goal.returns
returns c = putting_all c.loop-i.invariant c.loop-i-test.false
