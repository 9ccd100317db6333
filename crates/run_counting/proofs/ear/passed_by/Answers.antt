-- `run_counting::ear::passed_by` meets its contract: each way out by the tests that led there.
use mathlib.Core.Path.{sym, ap, ◌∙◌}
use mathlib.Core.Bool.{not}
use lib.Dec.{eqb}
use borrow.Author.Tests.{not-true, not-false, eq-eqb, ne_eqb}
use Rattle.run_counting.specs.Counting.{looked}
use Rattle.run_counting.specs.Ears.{passed_by}
use Rattle.run_counting.proofs.ear.passed_by.Goals as goal

pub returns-then-row-position : goal.returns-then-row-position
unfolding passed_by looked
returns-then-row-position c = rw (not-true (eqb c.args.row.position c.args.position) (ap not (ne_eqb _ _ c.if-row-position.true)))

pub returns-then-is_wake : goal.returns-then-is_wake
unfolding passed_by looked
returns-then-is_wake c =
    rw (
      not-false (eqb c.args.row.position c.args.position) (ap not (eq-eqb _ _ c.if-row-position.false)),
      sym c.is_wake.ensures ∙ c.if-is_wake.true,
    )

pub returns-then-row-eq0 : goal.returns-then-row-eq0
unfolding passed_by looked
returns-then-row-eq0 c =
    rw (
      not-false (eqb c.args.row.position c.args.position) (ap not (eq-eqb _ _ c.if-row-position.false)),
      sym c.is_wake.ensures ∙ c.if-is_wake.false,
      eq-eqb _ _ c.if-row-eq0.true,
      c.opened_after.ensures,
    )

pub returns : goal.returns
unfolding passed_by looked
returns c =
    rw (
      not-false (eqb c.args.row.position c.args.position) (ap not (eq-eqb _ _ c.if-row-position.false)),
      sym c.is_wake.ensures ∙ c.if-is_wake.false,
      ne_eqb _ _ c.if-row-eq0.false,
      c.heard_by.ensures,
    )
