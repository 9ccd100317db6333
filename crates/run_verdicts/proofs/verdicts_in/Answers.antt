-- `run_verdicts::verdicts_in` meets its contract: each way out by what the check answered.
use mathlib.Core.List.{List}
use mathlib.Core.Path.{sym, ap}
use Rattle.std.proofs.lemmas.Result.{err_from_is_err_and}
use Rattle.base_rules.specs.Answers.{Answer, within}
use Rattle.base_rules.specs.Shown.{shown}
use Rattle.base_rules.proofs.Laws.AnswerLaws.{shown_ok, shown_refused}
use Rattle.bundle_check.specs.Bundles.{check_of}
use Rattle.run_verdicts.specs.declared.Verdict.{Verdict}
use Rattle.run_verdicts.specs.Shown.{listed}
use Rattle.run_verdicts.proofs.Laws.Answering.{in_refused, walkable_in, in_reads}
use Rattle.run_verdicts.proofs.verdicts_in.Goals as goal

pub returns-in_err-count : goal.returns-in_err-count
returns-in_err-count c =
    let b = c.args.bundle.now in
    let p = err_from_is_err_and c.from_residual.result c.from_residual.ensures.1 in
    rw (p.1, p.2)
    (ap (λ (a : Answer (List Verdict)). shown (within listed a)) (in_refused b (shown_refused (check_of b) (sym c.in_err-count.ensures))))

pub walk-verdicts-requires : goal.walk-verdicts-requires
walk-verdicts-requires c =
    let b = c.args.bundle.now in
    walkable_in b (shown_ok (check_of b) _ (sym c.in_ok-count.ensures))

pub returns : goal.returns
returns c =
    let b = c.args.bundle.now in
    rw c.walk-verdicts.ensures (in_reads b (shown_ok (check_of b) _ (sym c.in_ok-count.ensures)))
