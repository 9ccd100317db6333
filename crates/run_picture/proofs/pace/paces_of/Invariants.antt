-- `run_picture::pace::paces_of` meets its contract: the walk along the rows.
use Rattle.run_picture.proofs.Laws.TimingLaws.{Placing}
use Rattle.run_picture.specs.Timing.{Steady}
use Rattle.bundle_check.specs.Records.{records_of}
use Prim.Native.Nat.{◌-◌, ◌≤◌}
use Rattle.run_picture.proofs.pace.paces_of.Given as goal

abbrev pub invariant-loop-i : goal.invariant-loop-i
invariant-loop-i l = (l.i ≤ l.bundle.count) × Steady l.i l.pace × Placing (records_of l.bundle.bytes.now) l.i l.starts l.pace

abbrev pub decreases-loop-i : goal.decreases-loop-i
decreases-loop-i l = l.bundle.count - l.i
