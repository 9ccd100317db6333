-- `run_picture::pace::paces_of` meets its contract: the walk along the rows.
use Rattle.run_picture.proofs.Laws.TimingLaws.{placing_next, placing_all}
use Rattle.run_picture.proofs.Laws.Rows.{rest_rows}
use Rattle.bundle_check.proofs.Laws.BodyLaws.{few_rows}
use Rattle.bundle_check.specs.Walks.{end_of}
use Rattle.run_counting.proofs.Laws.Walking.{length_records}
use native.Mathlib.Omega.{arith}
use mathlib.Core.Path.{◌≡◌, refl, sym, ◌∙◌}
use Prim.Native.Nat.{zero-le}
use borrow.Author.Rules.{rules}
use Rattle.run_picture.proofs.pace.paces_of.Goals as goal

pub loop-i-init : goal.loop-i-init
unfolding end_of
loop-i-init c =
    rw c.unpaced-pace.ensures (
      zero-le,
      record { cut = zero-le; busy = zero-le; start = zero-le },
      record { places = search rules; so = refl; start = λ j h. absurd (omega (arith, h)); near = λ j h. absurd (omega (arith, h)) },
    )

pub paced-next-requires : goal.paced-next-requires
paced-next-requires c =
    (c.loop-i-test.true, c.loop-i.invariant.1)

pub offset_bounds-starts-i : goal.offset_bounds-starts-i
offset_bounds-starts-i c =
    omega (arith, few_rows c.args.bundle.bytes.now c.args.bundle.count c.args.bundle.accepted, c.loop-i-test.true)

pub bounds-starts-i : goal.bounds-starts-i
bounds-starts-i c =
    omega (arith, few_rows c.args.bundle.bytes.now c.args.bundle.count c.args.bundle.accepted, c.loop-i-test.true)

pub loop-i-preserved : goal.loop-i-preserved
loop-i-preserved c =
    let b = c.args.bundle.bytes.now in
    let test = c.loop-i-test.true in
    let r = rest_rows b c.loop-i.i c.args.bundle.count c.args.bundle.accepted test in
    let few = few_rows b c.args.bundle.count c.args.bundle.accepted in
    let after = c.paced-next.ensures in
    (omega (arith, test), after.1, placing_next c.loop-i.invariant.2 r after.0 (omega (arith, few, test)) after.1.start)

pub returns : goal.returns
returns c =
    let inv = c.loop-i.invariant in
    let all : c.loop-i.i ≡ c.args.bundle.count = omega (arith, inv.0, c.loop-i-test.false) in
    let whole = placing_all inv.2 (all ∙ sym (length_records c.args.bundle.bytes.now c.args.bundle.count c.args.bundle.accepted)) in
    (whole.0, rw all at inv.1, whole.1)
