-- `run_picture::drawing::Scene::put_lanes` meets its contract: a lane for each position that has rows, one after the other.
use borrow.Author.Rules.{rules}
use Rattle.run_picture.proofs.Laws.DrawingLaws.{lanes_next, lanes_none}
use Rattle.run_picture.proofs.Laws.PageLaws.{used_own, used_other, used_none}
use Rattle.text_filling.proofs.Laws.WritingLaws.{left_all, left_next, left_none}
use Rattle.bundle_check.specs.Records.{records_of}
use native.Mathlib.Omega.{arith}
use mathlib.Core.Path.{◌≡◌, sym, ◌∙◌}
use Prim.Native.Nat.{◌+◌, ◌-◌}
use Rattle.run_picture.proofs.drawing.Scene.put_lanes.Goals as goal

pub loop-position-init : goal.loop-position-init
loop-position-init c = (omega arith, left_all (search rules) (search rules))

pub put_lane-next-requires : goal.put_lane-next-requires
put_lane-next-requires c = omega (arith, c.loop-position.invariant.0)

pub loop-position-preserved : goal.loop-position-preserved
loop-position-preserved c =
    let s = c.args.self.now in
    let ks = records_of s.bundle.bytes.now in
    let p = c.loop-position.position in
    let inv = c.loop-position.invariant in
    let test = c.loop-position-test.true in
    let one : 49 - p - 1 ≡ 49 - (p + 1) = omega arith in
    let used = rw one at (used_own ks p {left = 49 - p} (omega (arith, test)) (sym c.if-unused.false ∙ s.known.positions.so p (omega (arith, test)))) in
    (omega (arith, inv.0, test), left_next inv.1 (lanes_next s.page s.verdicts.now ks c.loop-position.y used) c.put_lane-next.ensures)

pub loop-position-preserved-then-unused : goal.loop-position-preserved-then-unused
loop-position-preserved-then-unused c =
    let s = c.args.self.now in
    let ks = records_of s.bundle.bytes.now in
    let p = c.loop-position.position in
    let inv = c.loop-position.invariant in
    let test = c.loop-position-test.true in
    let one : 49 - p - 1 ≡ 49 - (p + 1) = omega arith in
    let used = rw one at (used_other ks p {left = 49 - p} (omega (arith, test)) (sym c.if-unused.true ∙ s.known.positions.so p (omega (arith, test)))) in
    (omega (arith, inv.0, test), rw used at inv.1)

pub returns : goal.returns
returns c =
    let s = c.args.self.now in
    let ks = records_of s.bundle.bytes.now in
    let p = c.loop-position.position in
    let none = lanes_none s.page s.verdicts.now ks c.loop-position.y (used_none ks p {left = 49 - p} (omega (arith, c.loop-position-test.false))) in
    left_none (rw none at c.loop-position.invariant.1)
