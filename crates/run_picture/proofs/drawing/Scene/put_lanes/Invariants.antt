-- `run_picture::drawing::Scene::put_lanes` meets its contract: a lane for each position that has rows, one after the other.
use Rattle.run_picture.specs.Pictures.{lanes_drawn}
use Rattle.run_picture.specs.Pages.{used_from, used_positions}
use Rattle.text_filling.proofs.Laws.WritingLaws.{Left}
use Rattle.bundle_check.specs.Records.{records_of}
use Prim.Native.Nat.{◌+◌, ◌-◌, ◌*◌, ◌≤◌}
use Rattle.run_picture.proofs.drawing.Scene.put_lanes.Given as goal

abbrev pub invariant-loop-position : goal.invariant-loop-position
invariant-loop-position l =
    (l.y + 24 * (49 - l.position) ≤ 96 + 24 * 48)
    × Left (lanes_drawn l.self.page l.self.verdicts.now (records_of l.self.bundle.bytes.now) 96 (used_positions (records_of l.self.bundle.bytes.now))) l.initial.out l.at
    (lanes_drawn l.self.page l.self.verdicts.now (records_of l.self.bundle.bytes.now) l.y (used_from (records_of l.self.bundle.bytes.now) (49 - l.position) l.position)) l.next l.out
