-- `run_picture::words::number_in` meets its contract, for the body as it stands in the bundle.
use Prim.Native.Nat.{◌+◌, ◌≤◌}
use native.Mathlib.Omega.{arith}
use lib.ListN.{length}
use Rattle.bundle_check.proofs.Laws.BodyLaws.{unchecked_inside}
use Rattle.bundle_rows.proofs.Laws.CharacterLaws.{body_whole}
use Rattle.run_picture.proofs.words.number_in.Goals as goal

pub slice_bounds-number_of-end : goal.slice_bounds-number_of-end
slice_bounds-number_of-end c =
    let h : c.row-row.result.offset + c.row-row.result.length ≤ length c.args.bundle.bytes.now =
    rw c.row-row.ensures (unchecked_inside c.args.bundle.bytes.now c.args.i c.args.bundle.count c.args.bundle.accepted c.requires) in
    omega arith

pub returns : goal.returns
returns c =
    let word = rw (body_whole c.args.bundle.bytes.now c.row-row.result) at c.number_of.ensures in
    rw c.row-row.ensures at word
