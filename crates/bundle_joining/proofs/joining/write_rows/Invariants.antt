-- `bundle_joining::joining::write_rows` meets its contract: the count, and the rows of both one by one.
use Prim.Native.Nat.{◌+◌, ◌-◌}
use Rattle.bundle_joining.proofs.Laws.Joining.{Joining}
use Rattle.bundle_joining.proofs.joining.write_rows.Given as goal

abbrev pub invariant-loop-k : goal.invariant-loop-k
invariant-loop-k l = Joining l.a.bytes.now l.a.count l.b.bytes.now l.b.count l.initial.out l.k l.at l.i l.j l.out

abbrev pub decreases-loop-k : goal.decreases-loop-k
decreases-loop-k l = l.a.count + l.b.count - l.k
