-- `bundle_check::walk::walk_rows` meets its contract: the loop walks along the rows.
use Prim.Native.Nat.{◌-◌}
use native.Mathlib.Omega.{arith}
use Rattle.bundle_check.proofs.Laws.Walking.{along_none, along_next, along_all}
use Rattle.bundle_check.proofs.walk.walk_rows.Goals as goal

pub loop-i-init : goal.loop-i-init
loop-i-init c = along_none c.requires.0 c.requires.1

pub overflow_add-end : goal.overflow_add-end
overflow_add-end c =
    omega (arith, c.struct_known-1.given, c.loop-i.invariant.near)

pub loop-i-preserved : goal.loop-i-preserved
loop-i-preserved c =
    rw c.wrong_field-wrong.ensures
    (along_next c.loop-i.invariant c.loop-i-test.true c.unchecked_row-row.ensures
    (omega (arith, c.struct_known-1.given)))

pub returns : goal.returns
returns c = along_all c.loop-i.invariant c.loop-i-test.false
