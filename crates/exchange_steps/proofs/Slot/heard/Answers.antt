-- `Slot::heard` meets its contract: reading, outline, step and reply put together.
use mathlib.Core.Path.{◌≡◌, ap, ◌∙◌}
use mathlib.Core.Bool.{cond}
use Rattle.std.specs.Prelude.{Result}
use Rattle.std.specs.Result.{result_unwrap_or}
use Rattle.base_rules.specs.declared.refusals.Refusal.{Refusal}
use Rattle.mbus_rules.specs.declared.Telegram.{Telegram}
use Rattle.mbus_rules.specs.Lines.{read_line}
use Rattle.mbus_rules.specs.Telegrams.{blank}
use Rattle.mbus_rules.specs.declared.Outline.{Outline}
use Rattle.mbus_rules.specs.Outlines.{outlined, outline_in}
use Rattle.mbus_rules.proofs.Laws.Outlines.{outline_shown, telegram_shown}
use Rattle.base_rules.specs.Shown.{shown}
use Rattle.exchange_steps.specs.Steps.{heard_on, ends_well}
use Rattle.exchange_steps.proofs.Laws.Steps.{heard_parts}
use Rattle.exchange_steps.proofs.Slot.heard.Goals.{After-seen-stepped}
use Rattle.exchange_steps.proofs.Slot.heard.Goals as goal

-- the step, from the outline of the reading
step_is : (c : After-seen-stepped)
    → c.seen-stepped.result
    ≡ shown (heard_on c.args.self (outlined (read_line c.args.line.now))
    c.args.t)
step_is c =
    let a = c.args in
    c.seen-stepped.ensures ∙ ap (λ (v : Outline). shown (heard_on a.self v a.t)) (c.outlined-outline.ensures
    ∙ ap outline_in c.read_line-reading.ensures ∙ outline_shown (read_line a.line.now))

pub returns : goal.returns
returns c =
    let a = c.args in
    heard_parts a.self (read_line a.line.now) a.t (step_is (goal.at.returns c).After-seen-stepped)
    (c.reply_of-reply.ensures ∙ ap (λ (r : Result Telegram Refusal). cond (ends_well c.seen-stepped.result) (result_unwrap_or r blank) blank)
    c.read_line-reading.ensures ∙ ap (λ (t : Telegram). cond (ends_well c.seen-stepped.result) t blank) (telegram_shown (read_line a.line.now)))
