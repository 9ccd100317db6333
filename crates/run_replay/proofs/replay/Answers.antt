-- `run_replay::replay` meets its contract: by what is answered of the rows that count.
use mathlib.Core.Path.{◌≡◌, refl, ap, sym, ◌∙◌}
use borrow.Author.Rules.{rules}
use mir.Syntax.{w64}
use mir.ValLaws.{to_z-of_z}
use Rattle.std.proofs.lemmas.Result.{err_from_is_err_and}
use Rattle.base_rules.specs.Shown.{shown}
use Rattle.base_rules.proofs.Laws.AnswerLaws.{shown_ok, shown_err}
use Rattle.run_replay.specs.Errors.{replay_of}
use Rattle.run_replay.proofs.Laws.Replaying.{replay_refused, replay_counts, replay_few, first_is, last_is, replay_error}
use Rattle.run_replay.proofs.replay.Goals.{After-error_between}
use Rattle.run_replay.proofs.replay.Goals as goal

pub returns-in_err-counted : goal.returns-in_err-counted
returns-in_err-counted c =
    let a = c.args in
    let p = err_from_is_err_and c.from_residual.result c.from_residual.ensures.1 in
    rw (p.1, p.2, replay_refused a.bundle.now a.position a.s1 a.s2 a.elapsed c.in_err-counted.ensures)

pub returns-then-count-lt2 : goal.returns-then-count-lt2
returns-then-count-lt2 c =
    let a = c.args in
    let k = replay_counts a.bundle.now a.position a.s1 a.s2 a.elapsed c.in_ok-counted.ensures in
    rw (replay_few a.bundle.now a.position a.s1 a.s2 a.elapsed k c.if-count-lt2.true)

-- what was answered of the two answers is what the replay is
between : (c : After-error_between) → c.error_between.result ≡ shown (replay_of c.args.bundle.now c.args.position c.args.s1 c.args.s2 c.args.elapsed)
between c =
    let a = c.args in
    let k = replay_counts a.bundle.now a.position a.s1 a.s2 a.elapsed c.in_ok-counted.ensures in
    c.error_between.ensures
    ∙ ap shown (replay_error a.bundle.now a.position a.s1 a.s2 a.elapsed k c.if-count-lt2.false refl refl c.figures_at-from.ensures c.figures_at-to.ensures)

pub returns-in_err-tenths : goal.returns-in_err-tenths
returns-in_err-tenths c =
    let a = c.args in
    let e = sym (between (goal.at.returns-in_err-tenths c).After-error_between) ∙ c.in_err-tenths.was in
    rw (shown_err (replay_of a.bundle.now a.position a.s1 a.s2 a.elapsed) _ e) (search rules)

pub returns : goal.returns
returns c =
    let a = c.args in
    let k = replay_counts a.bundle.now a.position a.s1 a.s2 a.elapsed c.in_ok-counted.ensures in
    let two = c.if-count-lt2.false in
    let e = sym (between (goal.at.returns c).After-error_between) ∙ c.in_ok-tenths.was in
    rw (
      shown_ok (replay_of a.bundle.now a.position a.s1 a.s2 a.elapsed) c.in_ok-tenths.tenths e,
      first_is a.bundle.now a.position a.s1 a.s2 a.elapsed k two,
      last_is a.bundle.now a.position a.s1 a.s2 a.elapsed k two,
      to_z-of_z w64 c.in_ok-tenths.tenths (search rules),
    )
