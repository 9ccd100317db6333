-- What a step of the meter answers to C and leaves in its record, by the program's own types.
use Rattle.std.specs.Prelude.{ℕ, ◌+◌, List, ◌≡◌, Option, None, Some, Result, Ok, Err}
use Rattle.base_rules.specs.declared.refusals.Refusal.{Refusal}
use Rattle.mbus_rules.specs.declared.Telegram.{Telegram}
use Rattle.base_rules.specs.Answers.{Answer, reads, refusal}
use Rattle.mbus_rules.specs.Host.{kind_number}
use Rattle.meter_steps.specs.declared.Meter.{Meter}
use Rattle.meter_steps.specs.declared.Step.{Step}
use Rattle.meter_record.specs.MeterRecords.{meter_bytes}
use Rattle.base_lent.specs.Lent.{stored}
use Rattle.mbus_records.specs.Telegrams.{telegram_bytes}

-- ---- by the program's cases

-- the answer that is shown
abbrev pub answer_in : {A : Type 0} → Result A Refusal → Answer A
answer_in (Ok a) = reads a
answer_in (Err e) = refusal e.0

-- what a step's reply stands for: the number, the meter's record and the answer's
abbrev pub number_by : Result (Option Telegram) Refusal → ℕ
number_by (Ok None) = 0
number_by (Ok (Some x)) = kind_number x.kind
number_by (Err e) = 256 + e.0

abbrev pub kept_by : Result (Option Telegram) Refusal → Meter → List ℕ → List ℕ
kept_by (Ok said) m b = stored meter_bytes b (reads m)
kept_by (Err e) m b = b

abbrev pub said_by : Result (Option Telegram) Refusal → List ℕ → List ℕ
said_by (Ok None) out = out
said_by (Ok (Some x)) out = stored telegram_bytes out (reads x)
said_by (Err e) out = out

pub record Kept (s : Step) (before after : List ℕ) (r : ℕ) : Type 0 where
  pub answer : r ≡ number_by s.reply
  pub left : after ≡ kept_by s.reply s.meter before
