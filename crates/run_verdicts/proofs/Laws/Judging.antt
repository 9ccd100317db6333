-- What the answers of the exchange's steps say of a row.
use mathlib.Core.Path.{◌≡◌, sym, ap, ◌∙◌}
use Rattle.base_rules.specs.Answers.{Answer}
use Rattle.base_rules.specs.declared.refusals.Refusal.{Refusal}
use Rattle.base_rules.specs.Shown.{shown}
use Rattle.base_rules.proofs.Laws.AnswerLaws.{shown_ok, shown_err}
use Rattle.std.specs.Prelude.{Result, Ok, Err}
use Rattle.mbus_rules.specs.declared.Request.{Request}
use Rattle.mbus_rules.specs.declared.Outline.TheVariants.{Asks}
use Rattle.bench_clock.specs.declared.Clock.{Clock}
use Rattle.exchange_steps.specs.declared.Exchange.{Exchange}
use Rattle.exchange_steps.specs.declared.Slot.{Slot}
use Rattle.exchange_steps.specs.declared.Slot.TheVariants.{Busy}
use Rattle.exchange_steps.specs.Steps.{begun, resent_in}
use Rattle.exchange_steps.specs.Histories.{exchange_after, stands}
use Rattle.run_verdicts.specs.declared.Verdict.TheVariants.{Resend}
use Rattle.run_verdicts.specs.declared.judging.Judged.{Judged}
use Rattle.run_verdicts.specs.Verdicts.{sent_as}
use Rattle.run_verdicts.specs.Judging.{first_as, sent_by}

-- an exchange told of a line or of a time
module _ (b : Slot) (a : Answer Exchange) {s : Result Exchange Refusal} (e : s ≡ shown a) where
  pub stands_on : {x : Exchange} → s ≡ Ok x → Busy x ≡ stands b a
  stands_on {x} f = ap (stands b) (sym (shown_ok a x (sym e ∙ f)))

  pub stands_still : {n : Refusal} → s ≡ Err n → b ≡ stands b a
  stands_still {n} f = ap (stands b) (sym (shown_err a n.0 (sym e ∙ f)))

-- an exchange told of a request
module _ (x : Exchange) (request : Request) (end : Clock) {s : Result Exchange Refusal} (e : s ≡ shown (resent_in x (Asks request) end)) where
  abbrev judged_by : Answer Exchange → Judged
  judged_by a = record { verdict = sent_as a; slot = Busy (exchange_after (begun request end) a) }

  pub sent_again : {y : Exchange} → s ≡ Ok y → record { verdict = Resend; slot = Busy y } ≡ sent_by (Busy x) (Asks request) end
  sent_again {y} f = ap judged_by (sym (shown_ok (resent_in x (Asks request) end) y (sym e ∙ f)))

  pub sent_first : {n : Refusal} → s ≡ Err n → first_as request end ≡ sent_by (Busy x) (Asks request) end
  sent_first {n} f = ap judged_by (sym (shown_err (resent_in x (Asks request) end) n.0 (sym e ∙ f)))
