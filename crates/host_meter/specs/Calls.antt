-- 01, "The simulated meter", as C calls it: what set-up and the two steps answer, and what they leave in the records lent to them.
use Rattle.std.specs.Prelude.{ℕ, List, [], ◌≡◌}
use Rattle.bench_clock.specs.declared.Clock.{Clock}
use Rattle.base_rules.specs.Answers.{Answer, follow}
use Rattle.mbus_rules.specs.Host.{kind_number}
use Rattle.meter_steps.specs.declared.Meter.{Meter}
use Rattle.meter_steps.specs.Meters.{Said, silence, says, Deed, set_up, heard_at, measured_at}
use Rattle.meter_record.specs.Leaving.{leaves}
use Rattle.meter_record.specs.MeterRecords.{meter_size, meter_bytes, meter_from}
use Rattle.base_lent.specs.Lent.{stored, needs, done, Leaves}
use Rattle.mbus_records.specs.Telegrams.{telegram_size, telegram_bytes, telegram_from}

-- ---- what each call answers

-- Set-up: 101 for the template's record, then 21 where the meter's record is too short, then 72.
abbrev pub set_up_for : List ℕ → ℕ → List ℕ → Answer Meter
set_up_for out own template = follow (telegram_from template) (λ t. needs meter_size out (set_up own t))

-- A line heard: 101 for the meter's record, then 21 where the answer's record is too short, then 70.
abbrev pub line_heard_for : List ℕ → List ℕ → Clock → List ℕ → Answer Deed
line_heard_for b line t out = follow (meter_from b) (λ m. needs telegram_size out (heard_at m line t))

-- Measure: 101 for the meter's record, then 70 and 71.
abbrev pub measure_for : List ℕ → ℕ → ℕ → Clock → Answer Deed
measure_for b v e t = follow (meter_from b) (λ m. measured_at m v e t)

-- 0 for silence, else the number of the answer's kind: 1 ack, 5 data
abbrev pub said_number : Said → ℕ
said_number silence = 0
said_number (says x) = kind_number x.kind

-- ---- what is left

-- Set-up answers 0 and leaves the record of the meter that begins.
abbrev pub SetsUp : Answer Meter → List ℕ → List ℕ → ℕ → Type 0
SetsUp a before after r = Leaves done meter_bytes a before after r

-- A step at t leaves the record of the meter as it then stands.
abbrev pub Steps : Answer Deed → Clock → List ℕ → List ℕ → ℕ → Type 0
Steps a t before after r = Leaves (λ d. said_number d.said) (λ d. meter_bytes (leaves t d)) a before after r

-- A line that is answered leaves the record of that answer too, and silence nothing.
abbrev pub said_bytes : Said → List ℕ
said_bytes silence = []
said_bytes (says x) = telegram_bytes x

pub record HearsLine (a : Answer Deed) (t : Clock) (before after out then : List ℕ) (r : ℕ) : Type 0 where
  pub step : Steps a t before after r
  pub said : then ≡ stored (λ d. said_bytes d.said) out a
