-- `bundle_columns::scanning::pass_blocks` meets its contract: the loop passes over blocks without the position.
use Prim.Native.Nat.{◌-◌}
use lib.ListN.{length}
use Rattle.bundle_columns.specs.Scanning.{Passed}
use Rattle.bundle_columns.proofs.scanning.pass_blocks.Given as goal

abbrev pub invariant-loop-i : goal.invariant-loop-i
invariant-loop-i l = Passed l.positions l.position l.from l.i

abbrev pub decreases-loop-i : goal.decreases-loop-i
decreases-loop-i l = length l.positions - l.i
