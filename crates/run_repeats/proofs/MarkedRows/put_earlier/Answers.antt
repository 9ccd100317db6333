-- `run_repeats::MarkedRows::put_earlier` meets its contract: the loop puts one number after the other.
use native.Mathlib.Omega.{arith}
use Rattle.run_repeats.proofs.Laws.Putting.{putting_none, putting_next, putting_all}
use Rattle.run_repeats.proofs.MarkedRows.put_earlier.Goals as goal

pub loop-i-init : goal.loop-i-init
loop-i-init c = putting_none c.args.self.now.marked.accepted c.requires

pub earlier_of-requires : goal.earlier_of-requires
earlier_of-requires c =
    c.loop-i-test.true

pub bounds-rows-i : goal.bounds-rows-i
bounds-rows-i c = omega (arith, c.loop-i-test.true, c.loop-i.invariant.room, c.loop-i.invariant.size)

pub loop-i-preserved : goal.loop-i-preserved
loop-i-preserved c = putting_next c.loop-i.invariant c.loop-i-test.true c.earlier_of.ensures

pub shape_of-rows : goal.shape_of-rows
shape_of-rows c = c.loop-i.invariant.size

pub returns : goal.returns
returns c = putting_all c.loop-i.invariant c.loop-i-test.false
