-- `run_repeats::mark_rows` meets its contract: the loop marks one row after the other.
use native.Mathlib.Omega.{arith}
use Rattle.bundle_check.proofs.Laws.BodyLaws.{unchecked_inside}
use Rattle.run_repeats.proofs.Laws.Marking.{marking_none, marking_room, marking_next, marking_all}
use Rattle.run_repeats.proofs.mark_rows.Goals as goal

pub loop-i-init : goal.loop-i-init
loop-i-init c =
    rw c.requires (marking_none c.args.bundle.accepted)

pub mark_at-requires : goal.mark_at-requires
mark_at-requires c =
    unchecked_inside c.args.bundle.bytes.now c.loop-i.i c.args.bundle.count c.args.bundle.accepted c.loop-i-test.true

pub offset_bounds-marks-i : goal.offset_bounds-marks-i
offset_bounds-marks-i c = omega (arith, marking_room c.loop-i.invariant c.loop-i-test.true)

pub bounds-marks-i : goal.bounds-marks-i
bounds-marks-i c =
    marking_room c.loop-i.invariant c.loop-i-test.true

pub loop-i-preserved : goal.loop-i-preserved
loop-i-preserved c =
    marking_next c.loop-i.invariant c.loop-i-test.true c.mark_at.ensures

pub returns : goal.returns
returns c =
    marking_all c.loop-i.invariant c.loop-i-test.false
