-- `run_picture::pace::reach` meets its contract: the walk along the rows up to a place.
use borrow.Author.Tests.{ltb-false, le-ltb}
use Rattle.run_picture.proofs.Laws.TimingLaws.{cut_past, cut_on, cut_all}
use Rattle.run_picture.proofs.Laws.Rows.{rest_rows, no_rows}
use native.Mathlib.Omega.{arith}
use mathlib.Core.Path.{◌≡◌, refl}
use borrow.Author.Tests.{le-ltb, lt-ltb}
use Rattle.run_picture.proofs.pace.reach.Goals as goal

pub loop-row-init : goal.loop-row-init
loop-row-init c = (c.requires.0, c.requires.1, λ x h. refl)

pub paced-next-requires : goal.paced-next-requires
paced-next-requires c =
    (c.loop-row-test.true, c.loop-row.invariant.1)

pub returns-then-past : goal.returns-then-past
returns-then-past c =
    let inv = c.loop-row.invariant in
    let r = rest_rows c.args.bundle.bytes.now c.loop-row.row c.args.bundle.count c.args.bundle.accepted c.loop-row-test.true in
    let there = inv.2 c.args.place (omega arith) in
    let past = cut_past c.loop-row.pace r c.paced-next.ensures.0 c.args.place there (lt-ltb _ _ c.if-past.true) in
    (inv.0, inv.1, record { cut = past; on = inv.2 })

pub loop-row-preserved : goal.loop-row-preserved
loop-row-preserved c =
    let inv = c.loop-row.invariant in
    let test = c.loop-row-test.true in
    let r = rest_rows c.args.bundle.bytes.now c.loop-row.row c.args.bundle.count c.args.bundle.accepted test in
    let far = ltb-false c.args.place c.paced-next.result.start (le-ltb _ _ c.if-past.false) in (
      omega (arith, test),
      c.paced-next.ensures.1,
      λ x h. cut_on c.loop-row.pace r c.paced-next.ensures.0 x (inv.2 x h) (le-ltb x c.paced-next.result.start (omega (arith, far, h))),
    )

pub returns : goal.returns
returns c =
    let inv = c.loop-row.invariant in
    let all : c.loop-row.row ≡ c.args.bundle.count = omega (arith, inv.0, c.loop-row-test.false) in
    let none = no_rows c.args.bundle.bytes.now c.loop-row.row c.args.bundle.count c.args.bundle.accepted c.loop-row-test.false in
    let cut = cut_all c.args.place c.loop-row.pace none (inv.2 c.args.place (omega arith)) in
    (omega arith, rw all at inv.1, record { cut = cut; on = rw all at inv.2 })
