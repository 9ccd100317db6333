-- `run_verdicts::walking::walk` meets its contract: each turn judges one row.
use native.Mathlib.Omega.{arith}
use Rattle.run_verdicts.proofs.Laws.Walking.{walked_none, walked_next, walked_all}
use Rattle.run_verdicts.proofs.walking.walk.Goals as goal

pub loop-i-init : goal.loop-i-init
loop-i-init g c = walked_none c.requires.few

pub bounds-slots-position : goal.bounds-slots-position
bounds-slots-position g c =
    rw c.row-row.ensures (omega (arith, c.requires.position c.loop-i.i c.loop-i-test.true))

pub judge_in-judged-requires : goal.judge_in-judged-requires
judge_in-judged-requires g c =
    rw c.row-row.ensures (c.requires.inside c.loop-i.i c.loop-i-test.true)

pub bounds-verdicts-i : goal.bounds-verdicts-i
bounds-verdicts-i g c =
    omega (arith, c.loop-i.invariant.few)

pub bounds-slots-position-in-loop-i : goal.bounds-slots-position-in-loop-i
bounds-slots-position-in-loop-i g c =
    rw c.row-row.ensures
    (omega (arith, c.requires.position c.loop-i.i c.loop-i-test.true))

pub loop-i-preserved : goal.loop-i-preserved
loop-i-preserved g c =
    let there = c.row-row.ensures in
    rw there
    (walked_next c.loop-i.invariant c.loop-i-test.true
    (omega (arith, c.requires.position c.loop-i.i c.loop-i-test.true))
    (rw there at c.judge_in-judged.ensures))

pub returns : goal.returns
returns g c = walked_all c.loop-i.invariant c.loop-i-test.false
