-- `run_verdicts::kept::faults_of` meets its contract: each turn tries one row.
use Rattle.run_verdicts.proofs.Laws.Answering.{tries_none, tries_next, tries_all}
use Rattle.run_verdicts.proofs.kept.faults_of.Goals as goal

pub loop-i-init : goal.loop-i-init
loop-i-init c = (c.requires, tries_none c.requires c.args.end)

pub loop-i-preserved : goal.loop-i-preserved
loop-i-preserved c =
    let g = c.loop-i.invariant in
    (g.0, rw c.wrong_field-wrong.ensures (tries_next g.0 g.1 c.loop-i-test.true c.row-row.ensures))

pub returns : goal.returns
returns c = let g = c.loop-i.invariant in tries_all g.0 g.1 c.loop-i-test.false
