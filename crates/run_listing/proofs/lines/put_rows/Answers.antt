-- `run_listing::lines::put_rows` meets its contract: the loop writes the lines one behind the other.
use Rattle.run_listing.specs.Writing.{Holds}
use Rattle.run_listing.specs.Listings.{line_for}
use lib.ListN.{get_or}
use Rattle.bundle_rows.specs.Rows.{blank_row}
use Rattle.bundle_check.proofs.Laws.BodyLaws.{unchecked_inside, count_rows}
use Rattle.run_listing.proofs.Laws.LineLaws.{lined_none, lined_next, lined_all}
use Prim.Native.Nat.{◌+◌, ◌*◌}
use Prim.Native.Nat.{◌≤◌, ◌<◌}
use mathlib.Core.Path.{sym}
use native.Mathlib.Omega.{arith}
use lib.ListN.{length}
use lib.Seq.{length-take-le}
use Rattle.bundle_check.specs.Bundles.{contents_of}
use Rattle.bundle_check.proofs.Laws.Accepted.{row_there}
use Rattle.run_listing.proofs.lines.put_rows.Goals as goal

pub loop-i-init : goal.loop-i-init
loop-i-init c =
    let a = c.args in
    let h : a.at + 48 * length (contents_of a.bundle.bytes.now) ≤ length a.out.now =
    omega (arith, count_rows a.bundle.bytes.now a.bundle.count c.args.bundle.accepted, c.requires) in
    lined_none h

pub row_line-line-requires : goal.row_line-line-requires
row_line-line-requires c =
    unchecked_inside c.args.bundle.bytes.now c.loop-i.i c.args.bundle.count c.args.bundle.accepted c.loop-i-test.true

pub slice_bounds-lay-end : goal.slice_bounds-lay-end
slice_bounds-lay-end c =
    sym (length-take-le c.row_line-line.result.size c.row_line-line.result.bytes (omega arith))

pub loop-i-preserved : goal.loop-i-preserved
loop-i-preserved c =
    let a = c.args in
    let i = c.loop-i.i in
    let e = c.args.bundle.accepted in
    let h : i < length (contents_of a.bundle.bytes.now) = omega (arith, count_rows a.bundle.bytes.now a.bundle.count e) in
    let line : Holds 48 c.row_line-line.result (line_for a.bundle.bytes.now (get_or (contents_of a.bundle.bytes.now) i blank_row)) =
    rw (row_there a.bundle.bytes.now i a.bundle.count e c.loop-i-test.true) at c.row_line-line.ensures in
    lined_next c.loop-i.invariant h line c.lay.ensures c.lay.auto.to

pub returns : goal.returns
returns c =
    let a = c.args in
    let n = count_rows a.bundle.bytes.now a.bundle.count c.args.bundle.accepted in
    let all = lined_all c.loop-i.invariant (omega (arith, n, c.loop-i-test.false)) in
    (omega (arith, n), all.0, all.1)
