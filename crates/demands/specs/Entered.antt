-- 01, "The simulated meter": what an enter changes, and that it changes nothing else; and a run in which all numbers differ.
use Rattle.std.specs.Prelude.{ℕ, ◌+◌, ◌≤◌, ◌<◌, List, [], ◌∷◌, ◌⊎◌, ◌≡◌}
use Rattle.bench_clock.specs.declared.Clock.{Clock}
use Rattle.mbus_rules.specs.declared.Request.TheVariants.{Enter}
use Rattle.mbus_rules.specs.declared.Outline.TheVariants as outlines
use Rattle.base_rules.specs.Answers.{reads}
use Rattle.mbus_rules.specs.declared.Telegram.{Telegram}
use Rattle.mbus_rules.specs.Telegrams.{read_of, enter_of, data_of}
use Rattle.mbus_rules.specs.Writing.{line_of}
use Rattle.mbus_rules.specs.Lines.{read_line}
use Rattle.mbus_rules.specs.Outlines.{outlined}
use Rattle.meter_template.specs.declared.Pair.{Pair}
use Rattle.meter_steps.specs.declared.Meter.{Meter}
use Rattle.meter_steps.specs.declared.Mode.TheVariants.{Use, Verifying}
use Rattle.meter_steps.specs.Meters.{says, set_up}
use Rattle.meter_steps.specs.Histories.{hear, measure, step_of, run_meter}
use Rattle.demands.specs.Values.{packed_entry, example_header, example_time, example_entries}
use Rattle.meter_steps.specs.Histories.{after_event}

-- The line is an enter with method s, addressed to FE or to the meter's own address, and heard not before its last step.
abbrev pub Enters : Meter → List ℕ → Clock → ℕ → Type 0
Enters m line t s =
    (m.last.0 ≤ t.0) × ((a : ℕ) × (outlined (read_line line) ≡ outlines.Asks (Enter a s)) × ((a ≡ 0xFE) ⊎ (a ≡ m.core.address)))

-- the same meter, in verification since t with method s and these verification totals
abbrev pub verifying_with : Pair → Clock → ℕ → Meter → Meter
verifying_with totals t s m = record {
  last = t;
  core = record { address = m.core.address; mode = Verifying s t; used = m.core.used; verified = totals; template = m.core.template };
}

-- Coming from use, an enter clears the verification totals and sets mode and method, and nothing else:
abbrev pub EnterFromUse : Type 0
EnterFromUse = (m : Meter) (line : List ℕ) (t : Clock) (s : ℕ) → Enters m line t s
    → m.core.mode ≡ Use
    → after_event m (hear line t) ≡ verifying_with (record { volume = 0; energy = 0 }) t s m

-- and so it does 4,320,000 or more after the last instruction, when the meter has returned to use.
abbrev pub EnterAfterReturn : Type 0
EnterAfterReturn = (m : Meter) (line : List ℕ) (t : Clock) (s : ℕ) → Enters m line t s
    → (method : ℕ) (since : Clock) → m.core.mode ≡ Verifying method since → since.0 + 4320000 ≤ t.0
    → after_event m (hear line t) ≡ verifying_with (record { volume = 0; energy = 0 }) t s m

-- In verification an enter sets the method, and nothing else.
abbrev pub EnterInVerification : Type 0
EnterInVerification = (m : Meter) (line : List ℕ) (t : Clock) (s : ℕ) → Enters m line t s
    → (method : ℕ) (since : Clock) → m.core.mode ≡ Verifying method since → t.0 < since.0 + 4320000
    → after_event m (hear line t) ≡ verifying_with m.core.verified t s m

-- ---- a run

-- 000's data example with an access number
abbrev pub template : ℕ → Telegram
template access = data_of 0 (example_header access 0) (example_entries 0)

-- the meter that it sets up at address 5
abbrev pub new_meter : Meter
new_meter = record {
  last = record { 0 = 0 };
  core = record {
    address = 5;
    mode = Use;
    used = record { volume = 12345678; energy = 96712345 };
    verified = record { volume = 0; energy = 0 };
    template = template 3;
  };
}

-- what it answers with access number 4 and these totals
abbrev pub answer_with : (volume energy : ℕ) → Telegram
answer_with volume energy =
    data_of 5 (example_header 4 0)
    (packed_entry 0x0C 0x03 energy ∷ packed_entry 0x0C 0x11 volume ∷ packed_entry 0x0B 0x59 7812 ∷ packed_entry 0x0B 0x5D 6534 ∷ packed_entry 0x0C 0x2D 12345678
    ∷ packed_entry 0x0C 0x3B 12345678 ∷ example_time 0 ∷ [])

-- The use pair comes from the template. A read in use is answered with it; after an enter and a volume of 3 and an energy of 7 measured a read is
-- answered with these, and the use pair is as it was.
abbrev pub MeterRun : Type 0
MeterRun =
    (set_up 5 (template 3) ≡ reads new_meter)
    × (step_of new_meter (hear (line_of (read_of 5)) (record { 0 = 900 }))
    ≡ reads (record {
      core = record {
        address = 5;
        mode = Use;
        used = record { volume = 12345678; energy = 96712345 };
        verified = record { volume = 0; energy = 0 };
        template = template 4;
      };
      said = says (answer_with 12345678 96712345);
    }))
    × (step_of (run_meter new_meter (hear (line_of (enter_of 5 0x91)) (record { 0 = 1000 }) ∷ measure 3 7 (record { 0 = 2000 }) ∷ []))
    (hear (line_of (read_of 0xFE)) (record { 0 = 3000 }))
    ≡ reads (record {
      core = record {
        address = 5;
        mode = Verifying 0x91 (record { 0 = 3000 });
        used = record { volume = 12345678; energy = 96712345 };
        verified = record { volume = 3; energy = 7 };
        template = template 4;
      };
      said = says (answer_with 3 7);
    }))
