-- Demand 2, the simulated meter: what it answers, and what holds over every history of steps, refused ones included.
use Rattle.std.specs.Prelude.{ℕ, ◌<◌, true, false, List, ◌≡◌}
use Rattle.bench_clock.specs.declared.Clock.{Clock}
use Rattle.bench_clock.specs.Times.{earlier}
use Rattle.mbus_rules.specs.declared.Request.TheVariants.{Enter}
use Rattle.mbus_rules.specs.declared.Telegram.{Telegram}
use Rattle.mbus_rules.specs.declared.Outline.TheVariants as outlines
use Rattle.base_rules.specs.Answers.{reads, refusal}
use Rattle.mbus_rules.specs.Lines.{read_line}
use Rattle.mbus_rules.specs.Telegrams.{ack}
use Rattle.mbus_rules.specs.TelegramSizes.{Sized}
use Rattle.mbus_rules.specs.Outlines.{outlined}
use Rattle.meter_template.specs.Templates.{raised, data_with, plus}
use Rattle.meter_steps.specs.declared.Meter.{Meter}
use Rattle.meter_steps.specs.declared.Mode.TheVariants.{Use, Verifying}
use Rattle.meter_steps.specs.Meters.{Deed, says, quiet, zeros, left, mode_at, returned, in_force, addressed, set_up}
use Rattle.meter_steps.specs.Histories.{Event, hear, measure, step_of, after_event, run_meter, sometime}
use Rattle.meter_steps.specs.Histories.{is_read, is_enter, is_leave, instructs, obeys, enters_from_use, ends_verification}
use Rattle.meter_steps.specs.Changes.{Rises, read_at}
use Rattle.meter_steps.specs.Proper.{Proper}

-- ---- what it answers

-- An accepted enter or leave at FE or its own address is answered by the ack,
abbrev pub EnterAnswered : Type 0
EnterAnswered =
    (m : Meter) (line : List ℕ) (t : Clock) → obeys is_enter m (hear line t) ≡ true
    → (d : Deed) × (step_of m (hear line t) ≡ reads d) × (d.said ≡ says ack)

abbrev pub LeaveAnswered : Type 0
LeaveAnswered =
    (m : Meter) (line : List ℕ) (t : Clock) → obeys is_leave m (hear line t) ≡ true
    → (d : Deed) × (step_of m (hear line t) ≡ reads d) × (d.said ≡ says ack)

-- a read by data from the own address: the template with the raised access number, and the pair that is in force after the return,
abbrev pub ReadAnswered : Type 0
ReadAnswered =
    (m : Meter) (line : List ℕ) (t : Clock) → obeys is_read m (hear line t) ≡ true
    → (d : Deed) × (step_of m (hear line t) ≡ reads d)
    × (d.said ≡ says (data_with m.core.address (in_force (returned t m.core)) (raised m.core.template)))

-- and every other line gets silence, and changes nothing but the return.
abbrev pub OthersSilent : Type 0
OthersSilent =
    (m : Meter) (line : List ℕ) (t : Clock) → earlier m.last.0 t.0 ≡ false
    → instructs (λ q. true) m.core.address (outlined (read_line line)) ≡ false → step_of m (hear line t) ≡ reads (quiet (returned t m.core))

-- Whatever a meter that was set up answers, after any history, can be written; its line reads as it; and it is the ack or comes from
-- the own address.
abbrev pub MeterAnswers : Type 0
MeterAnswers =
    (own : ℕ) (template : Telegram) (m : Meter) (es : List Event) (e : Event) (d : Deed)
    → own < 256 → Sized template → set_up own template ≡ reads m → step_of (run_meter m es) e ≡ reads d → Proper own d.said

-- ---- what a step leaves

-- Enter puts it in verification with that method, from then on.
abbrev pub EnterVerifies : Type 0
EnterVerifies =
    (m : Meter) (line : List ℕ) (t : Clock) (a s : ℕ)
    → earlier m.last.0 t.0 ≡ false → outlined (read_line line) ≡ outlines.Asks (Enter a s) → addressed m.core.address (Enter a s) ≡ true
    → (after_event m (hear line t)).core.mode ≡ Verifying s t

-- Leave puts it in use, and the totals stay.
abbrev pub LeaveUses : Type 0
LeaveUses =
    (m : Meter) (line : List ℕ) (t : Clock) → obeys is_leave m (hear line t) ≡ true
    → after_event m (hear line t) ≡ record { last = t; core = left m.core }

-- A read changes only the access number and the times.
abbrev pub ReadChangesAccess : Type 0
ReadChangesAccess = (m : Meter) (line : List ℕ) (t : Clock) → obeys is_read m (hear line t) ≡ true → after_event m (hear line t) ≡ read_at t m

-- Measuring adds to the pair in force and changes nothing else: in use to the use pair, in verification to the verification pair.
module _ (m : Meter) (v e : ℕ) (t : Clock) (d : Deed) (taken : step_of m (measure v e t) ≡ reads d) where
  abbrev pub MeasuredInUse : Type 0
  MeasuredInUse =
      mode_at t m.core.mode ≡ Use
      → after_event m (measure v e t)
      ≡ record {
        last = t;
        core = record { address = m.core.address; mode = Use; used = plus m.core.used v e; verified = m.core.verified; template = m.core.template };
      }

  abbrev pub MeasuredInVerification : Type 0
  MeasuredInVerification =
      (s : ℕ) (since : Clock) → mode_at t m.core.mode ≡ Verifying s since
      → after_event m (measure v e t)
      ≡ record {
        last = t;
        core = record {
          address = m.core.address;
          mode = Verifying s since;
          used = m.core.used;
          verified = plus m.core.verified v e;
          template = m.core.template;
        };
      }

-- A refused step changes nothing.
abbrev pub RefusedChangesNothing : Type 0
RefusedChangesNothing = (m : Meter) (e : Event) (n : ℕ) → step_of m e ≡ refusal n → after_event m e ≡ m

-- ---- the verification totals, over every history

-- They become zero only by an enter that finds the meter in use.
abbrev pub ClearedByEnter : Type 0
ClearedByEnter =
    (es : List Event) (m : Meter) → (m.core.verified ≡ zeros → ⊥) → (run_meter m es).core.verified ≡ zeros
    → sometime enters_from_use m es ≡ true

-- As long as there is no such enter they never fall.
abbrev pub TotalsNeverFall : Type 0
TotalsNeverFall = (es : List Event) (m : Meter) → sometime enters_from_use m es ≡ false → Rises m.core.verified (run_meter m es).core.verified

-- From one enter to the next, without a leave or a 30 minute return between, they never fall.
abbrev pub BetweenEnters : Type 0
BetweenEnters =
    (m : Meter) (e : Event) (es : List Event) → obeys is_enter m e ≡ true → sometime ends_verification (after_event m e) es ≡ false
    → Rises (after_event m e).core.verified (run_meter (after_event m e) es).core.verified
