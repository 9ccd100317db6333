-- `run_replay::error_of_figures` meets its contract: past the refusals the error is that of the rises.
use mathlib.Core.Bool.{false, ◌||◌}
use mathlib.Core.Path.{◌≡◌, ap, ◌∙◌}
use borrow.Author.Tests.{le-ltb, lt-leb}
use Rattle.base_rules.specs.Shown.{shown}
use Rattle.run_replay.specs.Errors.{volume_over, wrong_interval, error_of_figures}
use Rattle.run_replay.proofs.Laws.Figuring.{rises_told}
use Rattle.run_replay.proofs.error_of_figures.Goals as goal

pub returns : goal.returns
unfolding error_of_figures
returns c =
    let a = c.args in
    let over : volume_over a.v1 a.v2 a.s1 a.s2 ≡ false =
    rw (
      le-ltb _ _ c.if-v1-gt-VOLUME_MOST.false,
      le-ltb _ _ c.if-v2-gt-VOLUME_MOST.false,
      le-ltb _ _ c.if-s1-gt-VOLUME_MOST.false,
      le-ltb _ _ c.if-s2-gt-VOLUME_MOST.false,
    ) in
    let wrong : (wrong_interval a.elapsed || wrong_interval a.meter) ≡ false =
    rw (← c.wrong_interval.ensures, ← c.wrong_interval-else-wrong_interval.ensures, c.if-wrong_interval.false, c.if-wrong_interval-2.false) in
    rw (over, wrong, le-ltb _ _ c.if-v2-v1.false, lt-leb _ _ c.if-s2-s1.false)
    (c.error_of_rises.ensures ∙ ap shown (rises_told a.v1 a.v2 a.s1 a.s2 over a.elapsed a.meter wrong c.if-s2-s1.false))
