-- `run_picture::drawing::Scene::put_marks` meets its contract: one mark after the other.
use Rattle.run_picture.specs.Pictures.{marks_drawn}
use Rattle.text_filling.proofs.Laws.WritingLaws.{Left}
use Rattle.bundle_check.specs.Records.{records_of}
use lib.ListN.{drop}
use mathlib.Core.Path.{◌≡◌}
use Rattle.run_picture.specs.Timing.{unpaced, cut_at, Steady}
use Prim.Native.Nat.{ℕ, ◌+◌, ◌-◌, ◌*◌, ◌≤◌}
use Rattle.run_picture.proofs.drawing.Scene.put_marks.Given as goal

abbrev pub invariant-loop-mark : goal.invariant-loop-mark
invariant-loop-mark l =
    (l.at_row.row ≤ l.bundle.count) × Steady l.at_row.row l.at_row.pace
    × ((z : ℕ) → l.place ≤ z → cut_at z l.at_row.pace (drop l.at_row.row (records_of l.bundle.bytes.now)) ≡ cut_at z unpaced (records_of l.bundle.bytes.now))
    × (l.x + 240 * (l.page.fields + 1 - l._mark) ≤ 60 + 240 * 8589934598) × (l.place + 48000 * (l.page.fields + 1 - l._mark) ≤ 48000 * 8589934598)
    × Left (marks_drawn l.page (records_of l.bundle.bytes.now) (l.page.fields + 1) 60 0) l.initial.out l.at (marks_drawn l.page (records_of l.bundle.bytes.now) (l.page.fields + 1 - l._mark) l.x l.place) l.next l.out
