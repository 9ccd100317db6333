-- `run_replay::figures::figures_at` meets its contract.
use Prim.Native.Nat.{ℕ}
use mathlib.Core.List.{List}
use mathlib.Core.Path.{sym, ap, ap₂, ◌∙◌}
use native.Mathlib.Omega.{arith}
use lib.Seq.{length-take-le}
use Rattle.std.specs.Result.{result_unwrap_or}
use Rattle.mbus_rules.specs.declared.Telegram.{Telegram}
use Rattle.mbus_rules.specs.Lines.{read_line}
use Rattle.base_rules.specs.Shown.{shown}
use Rattle.mbus_rules.proofs.Laws.Outlines.{telegram_shown}
use Rattle.bundle_rows.proofs.Laws.CharacterLaws.{characters_few, puts_taken}
use Rattle.run_replay.specs.Figures.{told_by}
use Rattle.run_replay.specs.Shown.{shown_told}
use Rattle.run_replay.proofs.figures.figures_at.Goals as goal

pub slice_bounds-line-end : goal.slice_bounds-line-end
slice_bounds-line-end c =
    let a = c.args in
    omega (arith, c.unchecked_characters-count.ensures.count, characters_few a.bundle.now a.i 502)

pub slice_bounds-read_line-end : goal.slice_bounds-read_line-end
slice_bounds-read_line-end c =
    let a = c.args in
    sym (length-take-le c.unchecked_characters-count.result c.unchecked_characters-count.new.line (omega (arith, c.unchecked_characters-count.ensures.count, c.unchecked_characters-count.auto, characters_few a.bundle.now a.i 502)))

pub returns : goal.returns
returns c =
    c.told_by.ensures
    ∙ ap (λ (x : Telegram). shown_told (told_by x))
    (c.unwrap_or.ensures
    ∙ ap₂ result_unwrap_or (c.read_line-read.ensures ∙ ap (λ (l : List ℕ). shown (read_line l)) (puts_taken c.unchecked_characters-count.ensures)) c.bare.ensures
    ∙ telegram_shown (read_line _))
