-- Proofs of the statements of specs/Records.
use Prim.Native.Nat.{ℕ, ◌^◌, ◌<◌}
use mathlib.Core.List.{List, [], ◌∷◌}
use mathlib.Core.Path.{◌≡◌, refl}
use Rattle.bench_clock.specs.declared.Clock.{Clock}
use Rattle.base_rules.specs.Answers.{Answer, reads, refusal}
use Rattle.mbus_records.proofs.Laws.TelegramLaws as telegrams
use Rattle.exchange_record.proofs.Laws.ExchangeLaws.{none_read, slot_written}
use Rattle.exchange_record.proofs.Laws.Runs as runs
use Rattle.host_exchange.proofs.Laws.Lives as lives
use Rattle.meter_steps.specs.declared.Meter.{Meter}
use Rattle.meter_steps.specs.Meters.{Deed, shown_meter_step}
use Rattle.meter_steps.specs.Histories.{Event, hear, measure, time_of, step_of, run_meter}
use Rattle.meter_steps.specs.Histories as meters
use Rattle.meter_record.specs.Leaving.{leaves}
use Rattle.meter_record.proofs.Laws.Keeping.{set_up_good, heard_good, measured_good}
use Rattle.meter_record.proofs.Laws.Reaching.{reached_by_history}
use Rattle.meter_record.proofs.Laws.RecordLaws.{Good, meter_read, meter_written}
use Rattle.host_meter.proofs.Laws.ReadBack as calls
use Rattle.demands.specs.Records.{TelegramReadBack, TelegramTaken, NoneIsZeros, ExchangeReadBack, ExchangeTaken, RecordFollows, HeardSteps, EventsFit}
use Rattle.demands.specs.Records.{MeterReadBack, MeterTaken, SetUpReadBack, HeardReadBack, MeasureReadBack}

pub telegram_read_back : TelegramReadBack
telegram_read_back = telegrams.telegram_read

pub telegram_taken : TelegramTaken
telegram_taken = telegrams.telegram_written

pub none_is_zeros : NoneIsZeros
none_is_zeros = none_read

pub exchange_read_back : ExchangeReadBack
exchange_read_back = runs.run_read_back

pub exchange_taken : ExchangeTaken
exchange_taken b w e a = (slot_written b w e, runs.taken_by_run b w e a)

pub record_follows : RecordFollows
record_follows = lives.record_follows

pub heard_steps : HeardSteps
heard_steps = lives.heard_steps

step_good : (m : Meter) (t : Clock) (a : Answer Deed) → Good m → ((d : Deed) → a ≡ reads d → Good (leaves t d)) → Good (shown_meter_step m t a).meter
step_good m t (refusal n) g k = g
step_good m t (reads d) g k = k d refl

after_good : (m : Meter) (e : Event) → Good m → (time_of e).0 < 256 ^ 8 → Good (meters.after_event m e)
after_good m (hear line t) g f = step_good m t (step_of m (hear line t)) g (heard_good m g t f line)
after_good m (measure v e t) g f = step_good m t (step_of m (measure v e t)) g (measured_good m g t f v e)

run_good : (m : Meter) (es : List Event) → Good m → EventsFit es → Good (run_meter m es)
unfolding run_meter EventsFit
run_good m [] g f = g
run_good m (e ∷ es) g f = run_good (meters.after_event m e) es (after_good m e g f.0) f.1

pub meter_read_back : MeterReadBack
meter_read_back own template m es places e f = meter_read (run_meter m es) (run_good m es (set_up_good own template m places e) f)

pub meter_taken : MeterTaken
meter_taken b m e =
    let w = meter_written b m e in
    let l = reached_by_history m w.good.so in
    (w.bytes, l.begins, (l.history, l.leads))

pub set_up_read_back : SetUpReadBack
set_up_read_back = calls.set_up_read_back

module _ (b : List ℕ) (t : Clock) (small : t.0 < 256 ^ 8) (d : Deed) where
  pub heard_read_back : HeardReadBack b t small d
  heard_read_back = calls.heard_read_back b t small d

  pub measure_read_back : MeasureReadBack b t small d
  measure_read_back = calls.measure_read_back b t small d
