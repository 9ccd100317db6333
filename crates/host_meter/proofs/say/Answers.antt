-- `host_meter::say` meets its contract.
use mathlib.Core.Path.{◌≡◌, subst}
use Rattle.mbus_rules.specs.declared.Telegram.{Telegram}
use borrow.Author.Rules.{rules}
use Rattle.std.specs.Prelude.{Option, Some, Ok}
use Rattle.host_meter.proofs.Laws.CallLaws.{said_says}
use Rattle.host_meter.proofs.say.Goals as goal

pub returns-in-Ok-Some : goal.returns-in-Ok-Some
returns-in-Ok-Some c =
    let s = c.in-Ok-Some in
    let said : s.field-0 ≡ Some s.telegram = rw s.is at s.field-0-is in
    said_says c.args.answer.now (subst (λ (x : Option Telegram). c.args.reply ≡ Ok x) said s.is)
    c.telegram_bytes-bytes.ensures (search rules) c.store.ensures.1
