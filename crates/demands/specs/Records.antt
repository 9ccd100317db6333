-- The records that C keeps between two calls: what is written is read back as the same value, over whole histories; and bytes are taken only where
-- some history gives them.
use Rattle.std.specs.Prelude.{ℕ, ◌^◌, ◌≤◌, ◌<◌, List, [], ◌∷◌, ◌≡◌, length, take, replicate}
use Rattle.bench_clock.specs.declared.Clock.{Clock}
use Rattle.mbus_rules.specs.declared.Telegram.{Telegram}
use Rattle.base_rules.specs.Answers.{reads}
use Rattle.base_lent.specs.Lent.{stored}
use Rattle.mbus_records.specs.Telegrams.{telegram_size, telegram_bytes, telegram_from}
use Rattle.mbus_records.specs.Sizes.{TelegramFits}
use Rattle.exchange_steps.specs.declared.Slot.{Slot}
use Rattle.exchange_steps.specs.declared.Slot.TheVariants.{Idle}
use Rattle.exchange_steps.specs.Histories.{Step, heard, after}
use Rattle.exchange_record.specs.Exchanges.{slot_bytes, slot_from}
use Rattle.exchange_record.specs.Sizes.{TimesFit, AskedBy}
use Rattle.host_exchange.specs.Calls as exchanges
use Rattle.host_exchange.specs.Calls.{step_for, record_after}
use Rattle.meter_steps.specs.declared.Meter.{Meter}
use Rattle.meter_steps.specs.Meters.{Deed, begun_meter, set_up}
use Rattle.meter_steps.specs.Histories.{Event, time_of, run_meter}
use Rattle.meter_record.specs.Leaving.{leaves}
use Rattle.meter_record.specs.MeterRecords.{meter_size, meter_bytes, meter_from}
use Rattle.host_meter.specs.Calls.{set_up_for, line_heard_for, measure_for}

-- ---- a telegram (`TelegramFits`: each field is in the range of its type)

abbrev pub TelegramReadBack : Type 0
TelegramReadBack = (t : Telegram) → TelegramFits t → telegram_from (telegram_bytes t) ≡ reads t

-- Bytes that are taken are those written for the telegram that they are taken as.
abbrev pub TelegramTaken : Type 0
TelegramTaken = (b : List ℕ) (t : Telegram) → telegram_from b ≡ reads t → telegram_bytes t ≡ b

-- ---- an exchange, or none

-- None is 24 bytes of 0.
abbrev pub NoneIsZeros : Type 0
NoneIsZeros = slot_from (replicate 24 0) ≡ reads Idle

-- After every history of steps from none, at times of 64 bits.
abbrev pub ExchangeReadBack : Type 0
ExchangeReadBack = (h : List Step) → TimesFit h → slot_from (slot_bytes (after h)) ≡ reads (after h)

-- An exchange that is taken stands so after some history from none (of a request at an address that is a byte), and so does none.
abbrev pub ExchangeTaken : Type 0
ExchangeTaken = (b : List ℕ) (w : Slot) → slot_from b ≡ reads w → AskedBy w → (slot_bytes w ≡ b) × ((h : List Step) × (after h ≡ w))

-- So from zeros the record is, after any calls, that of what their steps lead to, one exchange after another;
abbrev pub RecordFollows : Type 0
RecordFollows = (h : List Step) → TimesFit h → record_after (replicate 24 0) h ≡ slot_bytes (after h)

-- and a line heard is such a step wherever there is room for the reply.
abbrev pub HeardSteps : Type 0
HeardSteps =
    (b line : List ℕ) (t : ℕ) (reply : List ℕ) → telegram_size ≤ length reply
    → exchanges.heard_for b line t reply ≡ step_for b (heard line (record { 0 = t }))

-- ---- a simulated meter

-- the times of the steps are of 64 bits
unfoldable pub EventsFit : List Event → Type 0
EventsFit [] = Unit {0}
EventsFit (e ∷ es) = ((time_of e).0 < 256 ^ 8) × EventsFit es

-- After set-up and every history of steps (a template has seven places for entries).
abbrev pub MeterReadBack : Type 0
MeterReadBack =
    (own : ℕ) (template : Telegram) (m : Meter) (es : List Event) → length template.entries ≡ 7 → set_up own template ≡ reads m
    → EventsFit es → meter_from (meter_bytes (run_meter m es)) ≡ reads (run_meter m es)

-- A meter that is taken stands so after some history from the set-up with its address and template.
abbrev pub MeterTaken : Type 0
MeterTaken =
    (b : List ℕ) (m : Meter) → meter_from b ≡ reads m
    → (meter_bytes m ≡ b) × (set_up m.core.address m.core.template ≡ reads (begun_meter m.core.address m.core.template))
    × ((es : List Event) × (run_meter (begun_meter m.core.address m.core.template) es ≡ m))

-- So what a call leaves in the record is read by the next call as the same meter.
abbrev pub SetUpReadBack : Type 0
SetUpReadBack =
    (out : List ℕ) (own : ℕ) (template : List ℕ) (m : Meter) → set_up_for out own template ≡ reads m
    → meter_from (take meter_size (stored meter_bytes out (reads m))) ≡ reads m

module _ (b : List ℕ) (t : Clock) (small : t.0 < 256 ^ 8) (d : Deed) where
  abbrev pub HeardReadBack : Type 0
  HeardReadBack = (line out : List ℕ) → line_heard_for b line t out ≡ reads d → meter_from (stored meter_bytes b (reads (leaves t d))) ≡ reads (leaves t d)

  abbrev pub MeasureReadBack : Type 0
  MeasureReadBack = (v e : ℕ) → measure_for b v e t ≡ reads d → meter_from (stored meter_bytes b (reads (leaves t d))) ≡ reads (leaves t d)
