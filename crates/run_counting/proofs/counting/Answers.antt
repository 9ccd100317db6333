-- `run_counting::counting` meets its contract: each way out by what the check answered.
use Prim.Native.Nat.{ℕ}
use mathlib.Core.List.{List}
use mathlib.Core.Path.{sym, ap, ◌∙◌}
use Rattle.std.proofs.lemmas.Result.{err_from_is_err_and}
use Rattle.base_rules.specs.Answers.{Answer, reads, within}
use Rattle.base_rules.specs.Shown.{shown}
use Rattle.base_rules.proofs.Laws.AnswerLaws.{shown_ok, shown_refused}
use Rattle.bundle_check.specs.Bundles.{check_of}
use Rattle.run_counting.specs.declared.Counted.{Counted}
use Rattle.run_counting.specs.Shown.{numbered}
use Rattle.run_counting.proofs.Laws.Answering.{counting_refused, counting_outside, counting_reads, numbers_shown}
use Rattle.run_counting.proofs.counting.Goals as goal

pub returns-in_err-count : goal.returns-in_err-count
returns-in_err-count c =
    let a = c.args in
    let p = err_from_is_err_and c.from_residual.result c.from_residual.ensures.1 in
    rw (p.1, p.2)
    (ap (λ (l : Answer (List ℕ)). shown (within numbered l))
    (sym (counting_refused a.bundle.now a.position _ (shown_refused (check_of a.bundle.now) (sym c.in_err-count.ensures)))))

pub returns-then-wrong_position : goal.returns-then-wrong_position
returns-then-wrong_position c =
    let a = c.args in
    let e = shown_ok (check_of a.bundle.now) _ (sym c.in_ok-count.ensures) in
    ap (λ (l : Answer (List ℕ)). shown (within numbered l))
    (sym (counting_outside a.bundle.now a.position _ e (sym c.wrong_position.ensures ∙ c.if-wrong_position.true)))

pub returns : goal.returns
returns c =
    let a = c.args in
    let e = shown_ok (check_of a.bundle.now) _ (sym c.in_ok-count.ensures) in
    ap (λ (x : Counted). shown (reads x)) (numbers_shown c.put_numbers-count.ensures)
    ∙ ap (λ (l : Answer (List ℕ)). shown (within numbered l))
    (sym (counting_reads a.bundle.now a.position _ e (sym c.wrong_position.ensures ∙ c.if-wrong_position.false)))
