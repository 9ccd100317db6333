-- `run_picture::drawing::Scene::put_marks` meets its contract: one mark after the other.
use borrow.Author.Rules.{rules}
use Rattle.run_picture.proofs.Laws.DrawingLaws.{marks_next, marks_none}
use Rattle.text_filling.proofs.Laws.WritingLaws.{left_all, left_next, left_none}
use Rattle.bundle_check.specs.Records.{records_of}
use native.Mathlib.Omega.{arith}
use mathlib.Core.Path.{◌≡◌, refl, ◌∙◌}
use Rattle.bundle_check.proofs.Laws.BodyLaws.{few_rows}
use Prim.Native.Nat.{ℕ, ◌+◌, ◌-◌, ◌≤◌, zero-le}
use Rattle.run_picture.proofs.drawing.Scene.put_marks.Goals as goal

pub loop-mark-init : goal.loop-mark-init
loop-mark-init c =
    let all : c.args.self.now.page.fields + 1 - 0 ≡ c.args.self.now.page.fields + 1 = omega arith in
    rw (c.unpaced.ensures, all) (
      zero-le,
      record { cut = zero-le; busy = zero-le; start = zero-le },
      λ z h. refl,
      omega arith,
      omega arith,
      left_all (search rules) (search rules),
    )

pub reach-here-requires : goal.reach-here-requires
reach-here-requires c =
    let inv = c.loop-mark.invariant in
    (inv.0, inv.1)

pub overflow_add-place : goal.overflow_add-place
overflow_add-place c =
    let few = few_rows c.args.self.now.bundle.bytes.now c.args.self.now.bundle.count c.args.self.now.known.accepted in
    omega (arith, few, c.reach-here.ensures.0, c.reach-here.ensures.1.cut, c.loop-mark.invariant.4)

pub loop-mark-preserved : goal.loop-mark-preserved
loop-mark-preserved c =
    let inv = c.loop-mark.invariant in
    let place = c.loop-mark.place in
    let here = c.reach-here.ensures in
    let test = c.loop-mark-test.true in
    let marks : ℕ = c.args.self.now.page.fields + 1 in
    let k = c.loop-mark._mark in
    let one : marks - k - 1 ≡ marks - (k + 1) = omega arith in
    let next =
    rw one at
    (marks_next c.args.self.now.page (records_of c.args.self.now.bundle.bytes.now) c.loop-mark.x place {left = marks - k} (omega (arith, test))
    (here.2.cut ∙ inv.2 place (omega arith))) in (
      here.0,
      here.1,
      λ z h. let far : place ≤ z = omega (arith, h) in here.2.on z far ∙ inv.2 z far,
      omega (arith, inv.3, test),
      omega (arith, inv.4, c.args.self.now.known.bounded.step, test),
      left_next inv.5 next c.put_mark-next.ensures,
    )

pub shape_of-out : goal.shape_of-out
shape_of-out c = c.loop-mark.invariant.5.same

pub returns : goal.returns
returns c =
    let none = marks_none c.args.self.now.page (records_of c.args.self.now.bundle.bytes.now) c.loop-mark.x c.loop-mark.place {left = c.args.self.now.page.fields + 1 - c.loop-mark._mark} (omega (arith, c.loop-mark-test.false)) in
    left_none (rw none at c.loop-mark.invariant.5)
