-- 01, "The exchange", and 02, 2026-09, as C calls them: what the three steps answer, and what they leave in the records lent to them.
use Rattle.std.specs.Prelude.{ℕ, cond, List, [], ◌∷◌, ◌≡◌, Result, Ok, Err}
use Rattle.mbus_rules.specs.declared.Telegram.{Telegram}
use Rattle.base_rules.specs.Answers.{Answer, reads, refusal, follow}
use Rattle.base_rules.specs.declared.refusals.Refusal.{Refusal}
use Rattle.mbus_rules.specs.Telegrams.{bare}
use Rattle.exchange_steps.specs.declared.Exchange.{Exchange}
use Rattle.exchange_steps.specs.Steps.{is_well}
use Rattle.exchange_steps.specs.Histories.{Step, send_ended, heard, tick, answer}
use Rattle.base_lent.specs.Lent.{Leaves, stored, needs}
use Rattle.mbus_telegrams.specs.Kinds.{kind_in}
use Rattle.mbus_records.specs.Telegrams.{telegram_size, telegram_bytes}
use Rattle.exchange_record.specs.Exchanges.{state_number, exchange_bytes, slot_from}

-- ---- what each call answers

-- A step: 101 for the record, and then what the step answers.
abbrev pub step_for : List ℕ → Step → Answer Exchange
step_for b s = follow (slot_from b) (λ x. answer x s)

-- The end of a send, of a request by its kind's number with address and method.
abbrev pub send_ended_for : List ℕ → ℕ → ℕ → ℕ → ℕ → Answer Exchange
send_ended_for b kind address method t = step_for b (send_ended (bare (kind_in kind) address method) (record { 0 = t }))

abbrev pub tick_for : List ℕ → ℕ → Answer Exchange
tick_for b t = step_for b (tick (record { 0 = t }))

-- A line heard: 101, then 21 where the reply's record is too short, then what the step answers.
abbrev pub heard_for : List ℕ → List ℕ → ℕ → List ℕ → Answer Exchange
heard_for b line t reply = follow (slot_from b) (λ x. needs telegram_size reply (answer x (heard line (record { 0 = t }))))

-- ---- what is left

-- The answer is the number of the state as it then stands, and the record is that of the exchange as it then stands.
abbrev pub Answers : Answer Exchange → List ℕ → List ℕ → ℕ → Type 0
Answers a before after r = Leaves (λ x. state_number x.state) exchange_bytes a before after r

-- The line's telegram is written where the line ended the exchange well, and nothing in any other case.
abbrev pub replied : Answer Exchange → Telegram → List ℕ → List ℕ
replied (refusal n) telegram out = out
replied (reads x) telegram out = cond (is_well x.state) (stored telegram_bytes out (reads telegram)) out

pub record HearsReply (a : Answer Exchange) (telegram : Telegram) (before after out then : List ℕ) (r : ℕ) : Type 0 where
  pub step : Answers a before after r
  pub reply : then ≡ replied a telegram out

-- The record after calls for these steps, one after another.
unfoldable pub record_after : List ℕ → List Step → List ℕ
record_after b [] = b
record_after b (s ∷ h) = record_after (stored exchange_bytes b (step_for b s)) h

-- the answer that a program's case shows
abbrev pub answer_of : Result Exchange Refusal → Answer Exchange
answer_of (Err e) = refusal e.0
answer_of (Ok x) = reads x
