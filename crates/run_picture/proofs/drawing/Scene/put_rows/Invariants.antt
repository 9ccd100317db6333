-- `run_picture::drawing::Scene::put_rows` meets its contract: the rows of the position, one after the other.
use Rattle.run_picture.specs.Pictures.{rows_drawn}
use Rattle.run_picture.specs.Timing.{unpaced, pace_at}
use Rattle.text_filling.proofs.Laws.WritingLaws.{Left}
use Rattle.bundle_check.specs.Records.{records_of}
use lib.ListN.{drop}
use Rattle.run_picture.proofs.drawing.Scene.put_rows.Given as goal

abbrev pub invariant-loop-i : goal.invariant-loop-i
invariant-loop-i l =
    Left (rows_drawn l.position l.self.verdicts.now unpaced 0 (records_of l.self.bundle.bytes.now)) l.initial.out l.at
    (rows_drawn l.position l.self.verdicts.now (pace_at (records_of l.self.bundle.bytes.now) l.i) l.i (drop l.i (records_of l.self.bundle.bytes.now))) l.next l.out
