-- `run_picture::drawing::Scene::put_pauses` meets its contract: one pause after the other.
use borrow.Author.Rules.{rules}
use Rattle.run_picture.proofs.Laws.DrawingLaws.{pauses_next, pauses_none}
use Rattle.run_picture.proofs.Laws.Rows.{rest_rows, no_rows}
use Rattle.text_filling.proofs.Laws.WritingLaws.{left_all, left_next, left_none}
use native.Mathlib.Omega.{arith}
use Prim.Native.Nat.{zero-le}
use Rattle.run_picture.proofs.drawing.Scene.put_pauses.Goals as goal

pub loop-i-init : goal.loop-i-init
loop-i-init c = rw c.unpaced-pace.ensures (zero-le, record { cut = zero-le; busy = zero-le; start = zero-le }, left_all (search rules) (search rules))

pub paced-after-requires : goal.paced-after-requires
paced-after-requires c =
    (c.loop-i-test.true, c.loop-i.invariant.1)

pub loop-i-preserved : goal.loop-i-preserved
loop-i-preserved c =
    let r = rest_rows c.args.self.now.bundle.bytes.now c.loop-i.i c.args.self.now.bundle.count c.args.self.now.known.accepted c.loop-i-test.true in
    let drawn = rw c.row-row.ensures at c.put_pause-next.ensures in
    (omega arith, c.paced-after.ensures.1, left_next c.loop-i.invariant.2 (pauses_next c.loop-i.pace r c.paced-after.ensures.0) drawn)

pub shape_of-out : goal.shape_of-out
shape_of-out c = c.loop-i.invariant.2.same

pub returns : goal.returns
returns c =
    let none = no_rows c.args.self.now.bundle.bytes.now c.loop-i.i c.args.self.now.bundle.count c.args.self.now.known.accepted c.loop-i-test.false in
    left_none (rw (pauses_none c.loop-i.pace none) at c.loop-i.invariant.2)
