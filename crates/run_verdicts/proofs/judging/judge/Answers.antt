-- `run_verdicts::judging::judge` meets its contract: a wake-up, a row sent, or a row heard.
use mathlib.Core.Path.{sym, ◌∙◌}
use Rattle.base_characters.proofs.Laws.PairLaws.{length_characters}
use Rattle.run_verdicts.specs.Verdicts.{verdict_after, slot_after}
use borrow.Author.Tests.{eq-eqb, ne_eqb}
use Rattle.run_verdicts.proofs.judging.judge.Goals as goal

pub returns-then-is_wake : goal.returns-then-is_wake
unfolding verdict_after slot_after
returns-then-is_wake c = rw (sym c.is_wake.ensures ∙ c.if-is_wake.true)

pub returns-then-row-eq0 : goal.returns-then-row-eq0
unfolding verdict_after slot_after
returns-then-row-eq0 c =
    let a = c.args in
    rw (
      sym c.is_wake.ensures ∙ c.if-is_wake.false,
      (eq-eqb _ _ c.if-row-eq0.true),
      length_characters a.body.now,
      c.sent.ensures,
      c.waited.ensures,
      c.outline_of-outline.ensures,
    )

pub returns : goal.returns
unfolding verdict_after slot_after
returns c =
    rw (
      sym c.is_wake.ensures ∙ c.if-is_wake.false,
      (ne_eqb _ _ c.if-row-eq0.false),
      c.heard_verdict.ensures,
      c.after_heard.ensures,
      c.outline_of-outline.ensures,
    )
