-- `text_stretches::put_decimal` meets its contract, where there is no room and where there is some.
use Rattle.std.proofs.Common.{ℕ, ◌+◌, ap, ◌∙◌}
use Rattle.text_filling.specs.Putting.{tallied}
use Rattle.text_filling.proofs.Laws.WritingLaws.{put_past}
use Rattle.text_stretches.proofs.put_decimal.Goals as goal

pub returns-then-out-at : goal.returns-then-out-at
returns-then-out-at c =
    let at = c.args.at in
    put_past c.if-out-at.true (c.saturating_add.ensures ∙ ap (λ (k : ℕ). tallied (at + k)) c.width_of-size.ensures)
