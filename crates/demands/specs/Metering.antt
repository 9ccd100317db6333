-- 01, "The simulated meter": whom it obeys, when it is set up and when it measures, what it tells, and a meter by a run in which every number is different.
use Rattle.std.specs.Prelude.{ℕ, ◌+◌, ◌<◌, ◌≤◌, true, ◌↔◌, ◌⊎◌, ◌≡◌, pos, neg_ℤ}
use mathlib.Core.List.{List, [], ◌∷◌, ◌++◌, map, Memᴰ}
use Rattle.base_rules.specs.Answers.{Answer, reads, refusal, within}
use Rattle.bench_clock.specs.declared.Clock.{Clock}
use Rattle.mbus_rules.specs.declared.Kind.TheVariants as kinds
use Rattle.mbus_rules.specs.declared.Request.TheVariants.{Read, Enter, Leave}
use Rattle.mbus_rules.specs.declared.Outline.TheVariants.{Asks}
use Rattle.mbus_rules.specs.declared.Value.TheVariants.{Number, Time, Binary}
use Rattle.mbus_rules.specs.declared.Entry.{Entry}
use Rattle.mbus_rules.specs.declared.Telegram.{Telegram}
use Rattle.mbus_rules.specs.Lines.{read_line}
use Rattle.mbus_rules.specs.Outlines.{outlined}
use Rattle.mbus_rules.specs.Quantities.{energy, volume, quantity_of}
use Rattle.mbus_rules.specs.Telegrams.{ack, read_of, enter_of, leave_of, data_of}
use Rattle.mbus_rules.specs.TelegramSizes.{Sized}
use Rattle.mbus_rules.specs.Writing.{line_of}
use Rattle.meter_template.specs.declared.Pair.{Pair}
use Rattle.meter_template.specs.Templates.{next_access, raised, filled_entry, data_with}
use Rattle.meter_steps.specs.declared.Core.{Core}
use Rattle.meter_steps.specs.declared.Meter.{Meter}
use Rattle.meter_steps.specs.declared.Mode.{Mode}
use Rattle.meter_steps.specs.declared.Mode.TheVariants.{Use, Verifying}
use Rattle.meter_steps.specs.Meters.{Said, silence, says, addressed, in_force, returned, set_up}
use Rattle.meter_steps.specs.Histories.{Event, hear, measure, step_of, after_event, run_meter, is_read, is_enter, is_leave, obeys}

abbrev pub at : ℕ → Clock
at n = record { 0 = n }

-- ---- whom it obeys

-- FE, or its own address
abbrev pub ToItself : ℕ → ℕ → Type 0
ToItself own a = (a ≡ 0xFE) ⊎ (a ≡ own)

abbrev pub AddressedToIt : Type 0
AddressedToIt =
    (own a s : ℕ)
    → ((addressed own (Read a) ≡ true) ↔ ToItself own a) × ((addressed own (Enter a s) ≡ true) ↔ ToItself own a)
    × ((addressed own (Leave a) ≡ true) ↔ ToItself own a)

-- An instruction is an accepted request addressed to FE or its own address, and is obeyed not before its last step: a read,
abbrev pub ReadObeyed : Type 0
ReadObeyed =
    (m : Meter) (line : List ℕ) (t : Clock)
    → (obeys is_read m (hear line t) ≡ true)
    ↔ ((m.last.0 ≤ t.0) × ((a : ℕ) × (outlined (read_line line) ≡ Asks (Read a)) × ToItself m.core.address a))

-- an enter,
abbrev pub EnterObeyed : Type 0
EnterObeyed =
    (m : Meter) (line : List ℕ) (t : Clock)
    → (obeys is_enter m (hear line t) ≡ true)
    ↔ ((m.last.0 ≤ t.0) × ((a s : ℕ) × (outlined (read_line line) ≡ Asks (Enter a s)) × ToItself m.core.address a))

-- a leave.
abbrev pub LeaveObeyed : Type 0
LeaveObeyed =
    (m : Meter) (line : List ℕ) (t : Clock)
    → (obeys is_leave m (hear line t) ≡ true)
    ↔ ((m.last.0 ≤ t.0) × ((a : ℕ) × (outlined (read_line line) ≡ Asks (Leave a)) × ToItself m.core.address a))

-- 70: a time below the last step's, of a line and of measuring.
abbrev pub TimeGoesBack : Type 0
TimeGoesBack =
    (m : Meter) (t : Clock) → t.0 < m.last.0
    → ((line : List ℕ) → step_of m (hear line t) ≡ refusal 70) × ((v e : ℕ) → step_of m (measure v e t) ≡ refusal 70)

-- ---- set-up

-- an entry of the telegram has the quantity in structure 0C
abbrev pub In0C : ℕ → Telegram → Type 0
In0C q t = (e : Entry) × Memᴰ e t.entries × (e.structure ≡ 0x0C) × (quantity_of e.unit ≡ q)

-- 72: set up with no data, or with data the writer refuses, or energy or volume not in structure 0C.
abbrev pub SetUpRefused : Type 0
SetUpRefused =
    (own : ℕ) (t : Telegram) → Sized t
    → (t.kind ≡ kinds.Data → ⊥) ⊎ (((s : List ℕ) → read_line s ≡ reads t → ⊥) ⊎ ((In0C energy t → ⊥) ⊎ (In0C volume t → ⊥)))
    → set_up own t ≡ refusal 72

-- the first entry of the quantity has it in structure 0C, with this count
pub record Counts (q n : ℕ) (t : Telegram) : Type 0 where
  pub front : List Entry
  pub entry : Entry
  pub later : List Entry
  pub there : t.entries ≡ front ++ (entry ∷ later)
  pub first : (x : Entry) → Memᴰ x front → quantity_of x.unit ≡ q → ⊥
  pub structure : entry.structure ≡ 0x0C
  pub quantity : quantity_of entry.unit ≡ q
  pub value : entry.value ≡ Number (record { count = pos n })

abbrev pub pair_of : ℕ → ℕ → Pair
pair_of v e = record { volume = v; energy = e }

abbrev pub meter_with : ℕ → ℕ → Mode → Pair → Pair → Telegram → Meter
meter_with last own mode used verified template =
    record { last = at last; core = record { address = own; mode = mode; used = used; verified = verified; template = template } }

-- Else it is set up: in use, the use pair from the template, the verification pair 0, and no time before 0.
abbrev pub SetUpTaken : Type 0
SetUpTaken =
    (own : ℕ) (t : Telegram) (s : List ℕ) (v e : ℕ) → t.kind ≡ kinds.Data → read_line s ≡ reads t → Counts volume v t → Counts energy e t
    → set_up own t ≡ reads (meter_with 0 own Use (pair_of v e) (pair_of 0 0) t)

-- ---- the return, and the pair in force

-- In verification, 4,320,000 or more since the last instruction returns it to use, and less does not; nothing else changes.
abbrev pub ReturnsToUse : Type 0
ReturnsToUse =
    (t : Clock) (own s since : ℕ) (used verified : Pair) (template : Telegram)
    → let standing : Mode → Core = λ mode. (meter_with 0 own mode used verified template).core in
    (since + 4320000 ≤ t.0 → returned t (standing (Verifying s (at since))) ≡ standing Use)
    × (t.0 < since + 4320000 → returned t (standing (Verifying s (at since))) ≡ standing (Verifying s (at since)))
    × (returned t (standing Use) ≡ standing Use)

-- In use the use pair is in force, in verification the other.
abbrev pub PairInForce : Type 0
PairInForce =
    (c : Core) → (c.mode ≡ Use → in_force c ≡ c.used) × ((s : ℕ) (since : Clock) → c.mode ≡ Verifying s since → in_force c ≡ c.verified)

-- ---- measuring

-- both totals stay up to 99,999,999, eight digits of structure 0C
abbrev pub Fit : Pair → ℕ → ℕ → Type 0
Fit p v e = (p.volume + v ≤ 99999999) × (p.energy + e ≤ 99999999)

-- what the step answers, and the meter that it leaves
abbrev pub Measures : Meter → ℕ → ℕ → Clock → Meter → Type 0
Measures m v e t n = (within (λ d. d.said) (step_of m (measure v e t)) ≡ reads silence) × (after_event m (measure v e t) ≡ n)

module _ (own v e : ℕ) (last : ℕ) (t : ℕ) (in_order : last ≤ t) (used verified : Pair) (template : Telegram) where
  -- In use, and back in use, measuring adds to the use pair;
  abbrev pub MeasuresInUse : Type 0
  MeasuresInUse =
      Fit used v e
      → Measures (meter_with last own Use used verified template) v e (at t)
      (meter_with t own Use (pair_of (used.volume + v) (used.energy + e)) verified template)

  abbrev pub MeasuresBackInUse : Type 0
  MeasuresBackInUse =
      (s since : ℕ) → since + 4320000 ≤ t → Fit used v e
      → Measures (meter_with last own (Verifying s (at since)) used verified template) v e (at t)
      (meter_with t own Use (pair_of (used.volume + v) (used.energy + e)) verified template)

  -- in verification to the other, and is no instruction.
  abbrev pub MeasuresInVerification : Type 0
  MeasuresInVerification =
      (s since : ℕ) → t < since + 4320000 → Fit verified v e
      → Measures (meter_with last own (Verifying s (at since)) used verified template) v e (at t)
      (meter_with t own (Verifying s (at since)) used (pair_of (verified.volume + v) (verified.energy + e)) template)

  -- 71: either total would pass 99,999,999, of the pair in force.
  abbrev pub TotalWouldPass : Type 0
  TotalWouldPass =
      ((Fit used v e → ⊥) → step_of (meter_with last own Use used verified template) (measure v e (at t)) ≡ refusal 71)
      × ((s since : ℕ) → since + 4320000 ≤ t → (Fit used v e → ⊥)
      → step_of (meter_with last own (Verifying s (at since)) used verified template) (measure v e (at t)) ≡ refusal 71)
      × ((s since : ℕ) → t < since + 4320000 → (Fit verified v e → ⊥)
      → step_of (meter_with last own (Verifying s (at since)) used verified template) (measure v e (at t)) ≡ refusal 71)

-- ---- what it tells

-- The access number goes up by one, 255 to 0;
abbrev pub AccessGoesUp : Type 0
AccessGoesUp = (next_access 255 ≡ 0) × ((n : ℕ) → n < 255 → next_access n ≡ n + 1)

-- the answer comes from the own address, and has the rest from the template, entry by entry:
abbrev pub RestFromTheTemplate : Type 0
RestFromTheTemplate =
    (own : ℕ) (p : Pair) (t : Telegram)
    → data_with own p (raised t)
    ≡ record {
      kind = t.kind;
      address = own;
      method = t.method;
      header = record {
        number = t.header.number;
        maker = t.header.maker;
        version = t.header.version;
        meter_type = t.header.meter_type;
        access = next_access t.header.access;
        status = t.header.status;
      };
      count = t.count;
      entries = map (filled_entry p) t.entries;
    }

-- volume and energy in structure 0C with the pair's counts, and each other as it is.
abbrev pub TotalsTold : Type 0
TotalsTold =
    (v e : ℕ) (x : Entry) → v ≤ 99999999 → e ≤ 99999999
    → (x.structure ≡ 0x0C → quantity_of x.unit ≡ volume
    → filled_entry (pair_of v e) x ≡ record { structure = 0x0C; unit = x.unit; value = Number (record { count = pos v }) })
    × (x.structure ≡ 0x0C → quantity_of x.unit ≡ energy
    → filled_entry (pair_of v e) x ≡ record { structure = 0x0C; unit = x.unit; value = Number (record { count = pos e }) })
    × ((quantity_of x.unit ≡ volume → ⊥) → (quantity_of x.unit ≡ energy → ⊥) → filled_entry (pair_of v e) x ≡ x)

-- ---- a run

-- a template from address 11, which plays no part: meter 87654321, version 21, type 0C, access and status 66, with these totals
abbrev pub template : ℕ → ℕ → ℕ → ℕ → Telegram
template address access v e =
    data_of address (record { number = 87654321; maker = 0x4E89; version = 21; meter_type = 0x0C; access = access; status = 66 })
    (record { structure = 0x06; unit = 0x6D; value = Time (record { year = 26; month = 11; day = 16; hour = 17; minute = 18; second = 19; weekday = 1 }) }
    ∷ record { structure = 0x0C; unit = 0x13; value = Number (record { count = pos v }) }
    ∷ record { structure = 0x0A; unit = 0x59; value = Number (record { count = pos 7812 }) }
    ∷ record { structure = 0x0B; unit = 0x5D; value = Number (record { count = neg_ℤ (pos 34) }) }
    ∷ record { structure = 0x02; unit = 0x3B; value = Binary (record { count = pos 515 }) }
    ∷ record { structure = 0x0C; unit = 0x0E; value = Number (record { count = pos e }) }
    ∷ [])

-- what the meter says to each step, one after another
unfoldable pub said_to : Meter → List Event → List (Answer Said)
said_to m [] = []
said_to m (e ∷ es) = within (λ d. d.said) (step_of m e) ∷ said_to (after_event m e) es

-- Measured in use, read, entered with method 91, measured, entered again with 92, read by broadcast and at another's address, measured too much, at a time
-- that goes back, left, and read.
abbrev pub events : List Event
events =
    measure 30 40 (at 1000)
    ∷ hear (line_of (read_of 0x2A)) (at 1100)
    ∷ hear (line_of (enter_of 0xFE 0x91)) (at 1200)
    ∷ measure 500 600 (at 1300)
    ∷ hear (line_of (enter_of 0x2A 0x92)) (at 1400)
    ∷ hear (line_of (read_of 0xFE)) (at 1500)
    ∷ hear (line_of (read_of 0x11)) (at 1600)
    ∷ measure 99999499 0 (at 1700)
    ∷ measure 99999500 0 (at 1800)
    ∷ measure 1 1 (at 1699)
    ∷ hear (line_of (leave_of 0x2A)) (at 1900)
    ∷ hear (line_of (read_of 0x2A)) (at 2000)
    ∷ []

-- The meter of address 2A, set up with access 254 and totals 1111 and 2222: what it says, and how it stands in the end.
abbrev pub EveryNumberDiffers : Type 0
EveryNumberDiffers =
    (m : Meter)
    × (set_up 0x2A (template 0x11 254 1111 2222) ≡ reads m)
    × (said_to m events
    ≡ reads silence
    ∷ reads (says (template 0x2A 255 1141 2262))
    ∷ reads (says ack)
    ∷ reads silence
    ∷ reads (says ack)
    ∷ reads (says (template 0x2A 0 500 600))
    ∷ reads silence
    ∷ reads silence
    ∷ refusal 71
    ∷ refusal 70
    ∷ reads (says ack)
    ∷ reads (says (template 0x2A 1 1141 2262))
    ∷ [])
    × (run_meter m events ≡ meter_with 2000 0x2A Use (pair_of 1141 2262) (pair_of 99999999 600) (template 0x11 1 1111 2222))
