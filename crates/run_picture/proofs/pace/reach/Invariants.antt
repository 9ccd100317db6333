-- `run_picture::pace::reach` meets its contract: the walk along the rows up to a place.
use Rattle.run_picture.specs.Timing.{cut_at, Steady}
use Rattle.bundle_check.specs.Records.{records_of}
use lib.ListN.{drop}
use mathlib.Core.Path.{◌≡◌}
use Prim.Native.Nat.{ℕ, ◌-◌, ◌≤◌}
use Rattle.run_picture.proofs.pace.reach.Given as goal

abbrev pub invariant-loop-row : goal.invariant-loop-row
invariant-loop-row l =
    (l.row ≤ l.bundle.count) × Steady l.row l.pace
    × ((x : ℕ) → l.place ≤ x → cut_at x l.pace (drop l.row (records_of l.bundle.bytes.now)) ≡ cut_at x l.initial.pace (drop l.initial.row (records_of l.bundle.bytes.now)))

abbrev pub decreases-loop-row : goal.decreases-loop-row
decreases-loop-row l = l.bundle.count - l.row
