-- `run_verdicts::walking::InColumnsRows::row` meets its contract: where there is no row it is blank.
use mathlib.Core.Path.{sym, ap, ◌∙◌}
use Rattle.base_rules.specs.Answers.{refusal}
use Rattle.bundle_rows.specs.Rows.{unchecked_row}
use Rattle.bundle_columns.specs.Lookups.{row_kept}
use Rattle.base_rules.proofs.Laws.AnswerLaws.{shown_same}
use Rattle.run_verdicts.specs.Walking.{or_blank}
use Rattle.run_verdicts.proofs.walking.InColumnsRows.row.Goals as goal

pub returns-in-Err : goal.returns-in-Err
unfolding unchecked_row
returns-in-Err c =
    let a = c.args in
    c.unchecked_row.ensures
    ∙ ap or_blank (sym (shown_same (row_kept a.self.now.0.now a.i) (refusal c.in-Err.field-0.0) (sym c.row.ensures
    ∙ c.in-Err.is)))
