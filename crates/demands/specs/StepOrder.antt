-- The exchange and the simulated meter for C: 101 for the record that is kept between two calls, 21 for the record that is filled, then the
-- refusals of the step. Which bytes are taken as which exchange or meter is said by the statements about records.
use Rattle.std.specs.Prelude.{ℕ, ◌<◌, List, [], ◌∷◌, ◌≡◌}
use Rattle.base_rules.specs.Answers.{Answer, reads}
use Rattle.bench_clock.specs.declared.Clock.{Clock}
use Rattle.exchange_steps.specs.declared.Slot.{Slot}
use Rattle.exchange_steps.specs.declared.Slot.TheVariants.{Idle, Busy}
use Rattle.exchange_steps.specs.declared.State.TheVariants.{Waiting}
use Rattle.exchange_record.specs.Exchanges.{slot_from}
use Rattle.meter_steps.specs.declared.Meter.{Meter}
use Rattle.meter_record.specs.MeterRecords.{meter_from}
use Rattle.host_exchange.specs.Calls.{tick_for, heard_for}
use Rattle.host_meter.specs.Calls.{line_heard_for}
use Rattle.demands.specs.Orders.{Table, OrderOf}
use Rattle.demands.specs.RecordOrder.{TooFew}

-- the bytes are taken as something of which this holds; as nothing
abbrev pub TakenAs : {A : Type 0} → Answer A → (A → Type 0) → Type 0
TakenAs {A} a P = (x : A) × (a ≡ reads x) × P x

abbrev pub NotTaken : {A : Type 0} → Answer A → Type 0
NotTaken {A} a = (x : A) → a ≡ reads x → ⊥

-- ---- the exchange

-- 40: time earlier than the last step's; none has a last step
abbrev pub EarlierThan : ℕ → Slot → Type 0
EarlierThan t Idle = ⊥
EarlierThan t (Busy x) = t < x.last.0

-- 41: lines and ticks are called for only while waiting
abbrev pub NotWaiting : Slot → Type 0
NotWaiting Idle = Unit {0}
NotWaiting (Busy x) = ¬ (x.state ≡ Waiting)

-- 40, then 41
abbrev pub step_table : List ℕ → ℕ → Table
step_table b t = (40, TakenAs (slot_from b) (EarlierThan t)) ∷ (41, TakenAs (slot_from b) NotWaiting) ∷ []

-- A tick: 101, then 40 and 41.
abbrev pub TickForOrder : Type 0
TickForOrder = (b : List ℕ) (t : ℕ) → OrderOf ((101, NotTaken (slot_from b)) ∷ step_table b t) (tick_for b t)

-- A line heard: 101, then 21 for the 136 bytes of the reply's record, then 40 and 41.
abbrev pub HeardForOrder : Type 0
HeardForOrder =
    (b line : List ℕ) (t : ℕ) (reply : List ℕ)
    → OrderOf ((101, NotTaken (slot_from b)) ∷ (21, TooFew 136 reply) ∷ step_table b t) (heard_for b line t reply)

-- ---- the simulated meter

-- A line heard: 101, then 21 for the 136 bytes of the answer's record, then 70, time goes back.
abbrev pub LineHeardForOrder : Type 0
LineHeardForOrder =
    (b line : List ℕ) (t : Clock) (out : List ℕ)
    → OrderOf
    ((101, NotTaken (meter_from b)) ∷ (21, TooFew 136 out) ∷ (70, TakenAs (meter_from b) (λ (m : Meter). t.0 < m.last.0)) ∷ [])
    (line_heard_for b line t out)
