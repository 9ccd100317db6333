-- `run_counting::put_numbers` meets its contract: the loop notes the number of each row that counts.
use native.Mathlib.Omega.{arith}
use Rattle.bundle_check.proofs.Laws.BodyLaws.{few_rows, unchecked_inside}
use Rattle.run_counting.proofs.Laws.Walking.{noted_none, noted_not, noted_next, noted_all}
use Rattle.run_counting.proofs.put_numbers.Goals.{then-turn, else-turn}
use Rattle.run_counting.proofs.put_numbers.Goals as goal

pub loop-i-init : goal.loop-i-init
loop-i-init c = rw c.requires (noted_none c.args.bundle.accepted)

pub turn_at-turn-requires : goal.turn_at-turn-requires
turn_at-turn-requires c =
    unchecked_inside c.args.bundle.bytes.now c.loop-i.i c.args.bundle.count c.args.bundle.accepted c.loop-i-test.true

pub overflow_cast-rows : goal.overflow_cast-rows
overflow_cast-rows c =
    let a = c.args in
    omega (arith, few_rows a.bundle.bytes.now a.bundle.count c.args.bundle.accepted, c.loop-i.invariant.few, c.loop-i.invariant.whole)

pub offset_bounds-rows-found : goal.offset_bounds-rows-found
offset_bounds-rows-found c =
    let a = c.args in
    omega (arith, few_rows a.bundle.bytes.now a.bundle.count c.args.bundle.accepted, c.loop-i.invariant.few, c.loop-i.invariant.whole)

pub bounds-rows-found : goal.bounds-rows-found
bounds-rows-found c =
    let a = c.args in
    omega (arith, few_rows a.bundle.bytes.now a.bundle.count c.args.bundle.accepted, c.loop-i.invariant.few, c.loop-i.invariant.whole)

pub loop-i-preserved : goal.loop-i-preserved
loop-i-preserved c =
    elim c.if-turn.branch [
      | then-turn w ↦
          rw (w.rows-is, w.found-is) (noted_next c.loop-i.invariant c.loop-i-test.true c.turn_at-turn.ensures w.if-turn.true)
      | else-turn w ↦
          rw (w.rows-is, w.found-is) (noted_not c.loop-i.invariant c.loop-i-test.true c.turn_at-turn.ensures w.if-turn.false)
    ]

pub returns : goal.returns
returns c = noted_all c.loop-i.invariant c.loop-i-test.false
