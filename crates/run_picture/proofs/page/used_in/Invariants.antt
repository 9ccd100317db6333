-- `run_picture::page::used_in` meets its contract: each row marks its position.
use Rattle.run_picture.proofs.Laws.PageLaws.{Using}
use Rattle.bundle_check.specs.Records.{records_of}
use lib.ListN.{drop}
use Prim.Native.Nat.{◌-◌, ◌≤◌}
use Rattle.run_picture.proofs.page.used_in.Given as goal

abbrev pub invariant-loop-i : goal.invariant-loop-i
invariant-loop-i l = (l.i ≤ l.bundle.count) × Using (records_of l.bundle.bytes.now) (drop l.i (records_of l.bundle.bytes.now)) l.used

abbrev pub decreases-loop-i : goal.decreases-loop-i
decreases-loop-i l = l.bundle.count - l.i
