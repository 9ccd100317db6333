-- `run_picture::drawing::Scene::put_rows` meets its contract: the rows of the position, one after the other.
use borrow.Author.Rules.{rules}
use Rattle.run_picture.proofs.Laws.DrawingLaws.{rows_own, rows_other, rows_none}
use mathlib.Core.Path.{refl}
use Rattle.run_picture.proofs.Laws.Rows.{rest_rows, no_rows}
use Rattle.run_picture.proofs.Laws.TimingLaws.{pace_next}
use Rattle.run_picture.specs.Timing.{pace_at}
use Rattle.bundle_check.specs.Walks.{end_of}
use Rattle.run_counting.proofs.Laws.Walking.{length_records}
use Rattle.text_filling.proofs.Laws.WritingLaws.{left_all, left_next, left_none}
use Rattle.bundle_check.specs.Records.{records_of}
use native.Mathlib.Omega.{arith}
use borrow.Author.Tests.{eq-eqb, ne_eqb}
use Rattle.run_picture.proofs.drawing.Scene.put_rows.Goals as goal

pub loop-i-init : goal.loop-i-init
unfolding end_of
loop-i-init c = left_all (search rules) (search rules)

pub loop-i-preserved : goal.loop-i-preserved
loop-i-preserved c =
    let s = c.args.self.now in
    let b = s.bundle.bytes.now in
    let i = c.loop-i.i in
    let test = c.loop-i-test.true in
    let r = rest_rows b i s.bundle.count s.known.accepted test in
    let own = rw c.row-row.ensures at (eq-eqb _ _ c.if-other.false) in
    let next = rows_own (pace_at (records_of b) i) r (pace_next (records_of b) i r) c.args.position s.verdicts.now i refl own in
    let x = s.known.places.start i (omega (arith, length_records b s.bundle.count s.known.accepted, test)) in
    left_next c.loop-i.invariant next (rw x at c.put_row-next.ensures)

pub loop-i-preserved-then-other : goal.loop-i-preserved-then-other
loop-i-preserved-then-other c =
    let s = c.args.self.now in
    let b = s.bundle.bytes.now in
    let i = c.loop-i.i in
    let r = rest_rows b i s.bundle.count s.known.accepted c.loop-i-test.true in
    let other = rw c.row-row.ensures at (ne_eqb _ _ c.if-other.true) in
    let next = rows_other (pace_at (records_of b) i) r (pace_next (records_of b) i r) c.args.position s.verdicts.now i other in
    rw next at c.loop-i.invariant

pub returns : goal.returns
returns c =
    let s = c.args.self.now in
    let b = s.bundle.bytes.now in
    let i = c.loop-i.i in
    let none = no_rows b i s.bundle.count s.known.accepted c.loop-i-test.false in
    let all = rows_none c.args.position s.verdicts.now (pace_at (records_of b) i) i none in
    left_none (rw all at c.loop-i.invariant)
