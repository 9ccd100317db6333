-- 01, "The simulated meter", over whole histories: any list of steps, refused ones included.
use Rattle.std.specs.Prelude.{ℕ, Bool, true, false, not, ◌&&◌, ◌||◌, List, [], ◌∷◌}
use Rattle.bench_clock.specs.Times.{earlier}
use Rattle.bench_clock.specs.declared.Clock.{Clock}
use Rattle.mbus_rules.specs.declared.Request.{Request}
use Rattle.mbus_rules.specs.declared.Request.TheVariants.{Read, Enter, Leave}
use Rattle.mbus_rules.specs.declared.Outline.{Outline}
use Rattle.mbus_rules.specs.declared.Outline.TheVariants as outlines
use Rattle.base_rules.specs.Answers.{Answer, reads, refusal}
use Rattle.mbus_rules.specs.Lines.{read_line}
use Rattle.mbus_rules.specs.Outlines.{outlined}
use Rattle.meter_steps.specs.declared.Mode.{Mode}
use Rattle.meter_steps.specs.declared.Mode.TheVariants.{Use, Verifying}
use Rattle.meter_steps.specs.declared.Meter.{Meter}
use Rattle.meter_steps.specs.Meters.{Deed, mode_at, addressed, heard_at, measured_at, shown_meter_step}

-- a line heard, or a volume and an energy measured, each at its time
pub data Event : Type 0 where
  hear : List ℕ → Clock → Event
  measure : ℕ → ℕ → Clock → Event

abbrev pub time_of : Event → Clock
time_of (hear line t) = t
time_of (measure v e t) = t

abbrev pub step_of : Meter → Event → Answer Deed
step_of m (hear line t) = heard_at m line t
step_of m (measure v e t) = measured_at m v e t

-- the meter that a step hands back, and the one after a history
abbrev pub after_event : Meter → Event → Meter
after_event m e = (shown_meter_step m (time_of e) (step_of m e)).meter

unfoldable pub run_meter : Meter → List Event → Meter
run_meter m [] = m
run_meter m (e ∷ es) = run_meter (after_event m e) es

-- ---- what a step is

abbrev pub is_accepted : {A : Type 0} → Answer A → Bool
is_accepted (refusal n) = false
is_accepted (reads a) = true

abbrev pub is_read : Request → Bool
is_read (Read a) = true
is_read (Enter a s) = false
is_read (Leave a) = false

abbrev pub is_enter : Request → Bool
is_enter (Read a) = false
is_enter (Enter a s) = true
is_enter (Leave a) = false

abbrev pub is_leave : Request → Bool
is_leave (Read a) = false
is_leave (Enter a s) = false
is_leave (Leave a) = true

-- an instruction that is such a request
abbrev pub instructs : (Request → Bool) → ℕ → Outline → Bool
instructs kind own (outlines.Refused n) = false
instructs kind own outlines.Ack = false
instructs kind own (outlines.Data a) = false
instructs kind own (outlines.Asks q) = addressed own q && kind q

-- an accepted step with such an instruction
abbrev pub obeys : (Request → Bool) → Meter → Event → Bool
obeys kind m (hear line t) = not (earlier m.last.0 t.0) && instructs kind m.core.address (outlined (read_line line))
obeys kind m (measure v e t) = false

abbrev pub in_use : Mode → Bool
in_use Use = true
in_use (Verifying s since) = false

-- the step finds the meter in use, after the return
abbrev pub finds_in_use : Meter → Event → Bool
finds_in_use m e = in_use (mode_at (time_of e) m.core.mode)

-- an enter that finds the meter in use
abbrev pub enters_from_use : Meter → Event → Bool
enters_from_use m e = obeys is_enter m e && finds_in_use m e

-- an accepted step with the 30 minute return
abbrev pub returns_first : Meter → Event → Bool
returns_first m e = is_accepted (step_of m e) && (not (in_use m.core.mode) && finds_in_use m e)

-- some step of a history is such a step, from the meter as it then stands
unfoldable pub sometime : (Meter → Event → Bool) → Meter → List Event → Bool
sometime test m [] = false
sometime test m (e ∷ es) = test m e || sometime test (after_event m e) es

-- a leave or a 30 minute return
abbrev pub ends_verification : Meter → Event → Bool
ends_verification m e = obeys is_leave m e || returns_first m e
