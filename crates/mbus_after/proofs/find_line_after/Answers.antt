-- `mbus_after::find_line_after` meets its contract: from each place tried on the answer is the same.
use native.Mathlib.Omega.{arith}
use Rattle.std.proofs.lemmas.Result.{err_from_is_err_and}
use Rattle.mbus_after.proofs.Laws.Walks.{FoundHere, after_start, after_early, after_end, after_none, after_found}
use Rattle.mbus_after.proofs.Laws.Walks.{after_hit, after_old}
use Rattle.mbus_after.proofs.find_line_after.Goals.{In_ok-spot}
use Rattle.mbus_after.proofs.find_line_after.Goals as goal

-- the line found, once it is told
here : (c : In_ok-spot) → FoundHere c.args.t c.args.capture.now c.args.times.now c.loop-place.place c.in_ok-spot.spot.place c.in_ok-spot.spot.length
here c = after_found c.loop-place.invariant c.find_from.ensures c.in_ok-spot.was

pub loop-place-init : goal.loop-place-init
loop-place-init c = after_early after_start c.next_since-place.ensures

pub returns-in_err-spot : goal.returns-in_err-spot
returns-in_err-spot c =
    let p = err_from_is_err_and c.from_residual.result c.from_residual.ensures.1 in
    rw (p.1, p.2, after_none c.loop-place.invariant c.find_from.ensures c.in_err-spot.was)

pub returns-then-began : goal.returns-then-began
returns-then-began c = rw (after_hit (here (goal.at.returns-then-began c).In_ok-spot) c.began_since-began.ensures c.if-began.true)

pub overflow_add-spot : goal.overflow_add-spot
overflow_add-spot c = omega (arith, (here (goal.at.overflow_add-spot c).In_ok-spot).inside)

pub loop-place-preserved : goal.loop-place-preserved
loop-place-preserved c = after_early (after_old (here (goal.at.loop-place-preserved c).In_ok-spot) c.began_since-began.ensures c.if-began.false)
    c.next_since-place-in-loop-place.ensures

pub returns : goal.returns
returns c = rw (after_end c.loop-place.invariant c.loop-place-test.false)
