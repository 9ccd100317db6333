-- `bundle_check::rows::row` meets its contract: the row that is read without the check is the one that was asked for.
use mathlib.Core.Path.{sym, ap, ◌∙◌}
use Rattle.std.proofs.Common.{rules}
use Rattle.base_rules.specs.Shown.{shown}
use Rattle.base_rules.proofs.Laws.AnswerLaws.{shown_ok}
use Rattle.bundle_check.specs.Bundles.{check_of}
use Rattle.bundle_check.specs.Handing.{row_at}
use Rattle.bundle_check.proofs.Laws.HandingLaws.{row_unchecked}
use Rattle.bundle_check.proofs.rows.row.Goals as goal

pub returns-in_err-count : goal.returns-in_err-count
unfolding row_at
returns-in_err-count c = search rules

pub returns-then-count-i : goal.returns-then-count-i
unfolding row_at
returns-then-count-i c = search rules

pub returns : goal.returns
returns c =
    let b = c.args.bundle.now in
    rw c.unchecked_row.ensures
    (ap shown (sym (row_unchecked b c.args.i c.in_ok-count.count (shown_ok (check_of b) c.in_ok-count.count (sym c.check.ensures ∙ c.in_ok-count.was)) c.if-count-i.false)))
