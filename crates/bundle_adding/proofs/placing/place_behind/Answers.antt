-- `bundle_adding::placing::place_behind` meets its contract: the loop goes down from the last row.
use Prim.Native.Nat.{◌+◌, ◌-◌}
use borrow.Author.Tests.{le-ltb, lt-ltb}
use mathlib.Core.Path.{◌≡◌, refl, ◌∙◌}
use native.Mathlib.Nat.{le_refl}
use native.Mathlib.Omega.{arith}
use Rattle.bundle_adding.proofs.Laws.InsertingLaws.{looking_on, looking_found, looking_none}
use Rattle.bundle_adding.proofs.placing.place_behind.Goals as goal

pub loop-place-init : goal.loop-place-init
loop-place-init c = record { inside = le_refl c.args.bundle.count; so = refl }

pub returns-then-row-time : goal.returns-then-row-time
returns-then-row-time c =
    let same : c.loop-place.place - 1 + 1 ≡ c.loop-place.place = omega (arith, c.loop-place-test.true) in
    same
    ∙ looking_found c.args.bundle.bytes.now c.args.bundle.count c.args.time c.args.bundle.accepted c.loop-place.invariant c.loop-place-test.true c.row-row.ensures
    (le-ltb _ _ c.if-row-time.true)

pub loop-place-preserved : goal.loop-place-preserved
loop-place-preserved c =
    looking_on c.args.bundle.bytes.now c.args.bundle.count c.args.time c.args.bundle.accepted c.loop-place.invariant c.loop-place-test.true c.row-row.ensures
    (lt-ltb _ _ c.if-row-time.false)

pub returns : goal.returns
returns c =
    looking_none c.args.bundle.bytes.now c.args.bundle.count c.args.time c.args.bundle.accepted c.loop-place.invariant c.loop-place-test.false
