-- `run_picture::page::used_in` meets its contract: each row marks its position.
use Rattle.run_picture.proofs.Laws.PageLaws.{using_none, using_next, using_all}
use Rattle.run_picture.proofs.Laws.Rows.{rest_rows, no_rows, near_position}
use Rattle.bundle_check.specs.Records.{records_of}
use native.Mathlib.Omega.{arith}
use Prim.Native.Nat.{zero-le}
use Rattle.run_picture.proofs.page.used_in.Goals as goal

pub loop-i-init : goal.loop-i-init
loop-i-init c = (zero-le, using_none (records_of c.args.bundle.bytes.now))

pub bounds-used-position : goal.bounds-used-position
bounds-used-position c =
    rw c.row-row.ensures
    (near_position c.args.bundle.bytes.now c.loop-i.i c.args.bundle.count c.args.bundle.accepted c.loop-i-test.true)

pub loop-i-preserved : goal.loop-i-preserved
loop-i-preserved c =
    let b = c.args.bundle.bytes.now in
    let test = c.loop-i-test.true in
    let r = rest_rows b c.loop-i.i c.args.bundle.count c.args.bundle.accepted test in
    let near = near_position b c.loop-i.i c.args.bundle.count c.args.bundle.accepted test in
    (omega (arith, test), rw c.row-row.ensures (using_next c.loop-i.invariant.1 r near))

pub returns : goal.returns
returns c =
    using_all (no_rows c.args.bundle.bytes.now c.loop-i.i c.args.bundle.count c.args.bundle.accepted c.loop-i-test.false) c.loop-i.invariant.1
