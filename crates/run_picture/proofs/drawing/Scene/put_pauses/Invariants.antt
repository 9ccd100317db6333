-- `run_picture::drawing::Scene::put_pauses` meets its contract: one pause after the other.
use Rattle.run_picture.specs.Pictures.{pauses_drawn}
use Rattle.run_picture.specs.Timing.{unpaced, Steady}
use Rattle.text_filling.proofs.Laws.WritingLaws.{Left}
use Rattle.bundle_check.specs.Records.{records_of}
use lib.ListN.{drop}
use Prim.Native.Nat.{◌-◌, ◌≤◌}
use Rattle.run_picture.proofs.drawing.Scene.put_pauses.Given as goal

abbrev pub invariant-loop-i : goal.invariant-loop-i
invariant-loop-i l =
    (l.i ≤ l.bundle.count) × Steady l.i l.pace
    × Left (pauses_drawn unpaced (records_of l.bundle.bytes.now)) l.initial.out l.at (pauses_drawn l.pace (drop l.i (records_of l.bundle.bytes.now))) l.next l.out

abbrev pub decreases-loop-i : goal.decreases-loop-i
decreases-loop-i l = l.bundle.count - l.i
