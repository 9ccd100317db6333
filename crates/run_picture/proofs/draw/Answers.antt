-- `run_picture::draw` meets its contract, by what the verdicts tell of the check.
use Rattle.std.proofs.lemmas.Result.{err_from_is_err_and}
use Rattle.run_picture.proofs.Laws.Drawn.{judged_all, judged_not, draws_refused}
use borrow.Author.Rules.{rules}
use Rattle.run_picture.proofs.draw.Goals as goal

pub draw_rows-requires : goal.draw_rows-requires
draw_rows-requires c = (search rules, (judged_all c.args.bundle.now c.in_ok-judged.ensures).1)

pub returns-in_err-judged : goal.returns-in_err-judged
returns-in_err-judged c =
    let a = c.args in
    let p = err_from_is_err_and c.from_residual.result c.from_residual.ensures.1 in
    rw (p.1, p.2) (draws_refused a.bundle.now a.out.now (judged_not a.bundle.now c.in_err-judged.ensures))

pub invariant_of-accepted : goal.invariant_of-accepted
invariant_of-accepted c = record { accepted = (judged_all c.args.bundle.now c.in_ok-judged.ensures).0 }
