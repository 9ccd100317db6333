-- `run_counting::put_numbers` meets its contract: the loop notes the number of each row that counts.
use Prim.Native.Nat.{◌-◌}
use Rattle.run_counting.proofs.Laws.Walking.{Noted}
use Rattle.run_counting.proofs.put_numbers.Given as goal

abbrev pub invariant-loop-i : goal.invariant-loop-i
invariant-loop-i l = Noted l.bundle.bytes.now l.position l.bundle.count l.i l.ear l.found l.rows

abbrev pub decreases-loop-i : goal.decreases-loop-i
decreases-loop-i l = l.bundle.count - l.i
