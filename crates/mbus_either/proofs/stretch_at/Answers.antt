-- `mbus_either::stretch_at` meets its contract: the line lies inside its capture.
use mathlib.Core.Path.{sym, ◌∙◌}
use Rattle.base_rules.proofs.Laws.AnswerLaws.{shown_ok}
use Rattle.mbus_either.specs.Interfaces.{find_either}
use Rattle.mbus_either.proofs.Laws.Lines.{line_inside}
use Rattle.mbus_either.proofs.stretch_at.Goals as goal

pub part_of-requires-in-Mbus : goal.part_of-requires-in-Mbus
part_of-requires-in-Mbus c =
    let a = c.args in
    rw c.in-Mbus.is at
    (line_inside a.mbus.now a.optical.now c.in-Ok.line (shown_ok (find_either a.mbus.now a.optical.now) _ (sym c.requires ∙ c.in-Ok.is)))

pub part_of-requires-in-Optical : goal.part_of-requires-in-Optical
part_of-requires-in-Optical c =
    let a = c.args in
    rw c.in-Optical.is at
    (line_inside a.mbus.now a.optical.now c.in-Ok.line (shown_ok (find_either a.mbus.now a.optical.now) _ (sym c.requires ∙ c.in-Ok.is)))
