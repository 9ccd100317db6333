-- When calls succeed: what is enough for each, in numbers of the papers. (Reading: `WhatIsAccepted`. Searching: `LineIsFound`. The bench: `Bench`.)
use Rattle.std.specs.Prelude.{ℕ, ◌+◌, ◌%◌, ◌≤◌, ◌<◌, true, false, ◌&&◌, List, [], ◌∷◌, map, ◌⊎◌, ◌≡◌, eqb, length}
use Rattle.base_rules.specs.Answers.{Answer, reads, refusal, follow}
use Rattle.base_rules.specs.Lists.{any}
use Rattle.base_lent.specs.Lent.{needs, placed}
use Rattle.base_characters.specs.Characters.{carrier}
use Rattle.text_words.specs.Refusals.{text_of}
use Rattle.text_words.specs.Saying.{fitted}
use Rattle.mbus_rules.specs.declared.Entry.{Entry}
use Rattle.mbus_rules.specs.declared.Kind.TheVariants.{Data}
use Rattle.mbus_rules.specs.declared.Telegram.{Telegram}
use Rattle.mbus_rules.specs.Quantities.{quantity_of, energy, volume}
use Rattle.mbus_rules.specs.Writing.{unwritable}
use Rattle.bench_clock.specs.declared.Clock.{Clock}
use Rattle.exchange_steps.specs.declared.Exchange.{Exchange}
use Rattle.exchange_steps.specs.declared.State.TheVariants.{Waiting}
use Rattle.exchange_steps.specs.declared.Slot.TheVariants.{Busy}
use Rattle.exchange_steps.specs.Histories.{heard, tick, answer}
use Rattle.meter_steps.specs.declared.Meter.{Meter}
use Rattle.meter_steps.specs.declared.Mode.TheVariants.{Use}
use Rattle.meter_steps.specs.Meters.{Deed, returned, in_force, set_up}
use Rattle.meter_steps.specs.Histories.{hear, measure, step_of}
use Rattle.host_meaning.specs.Version.{version}
use Rattle.host_lines.specs.Calls.{request_for}

-- ---- room

-- What is answered is put down wherever there are as many places as its record has bytes, whether they are asked about last or first.
abbrev pub RoomIsEnough : Type 1
RoomIsEnough = (A B : Type 0) (size : ℕ) (out : List B) (a : Answer A) (x : A) → a ≡ reads x → size ≤ length out
    → (placed size out a ≡ reads x) × (needs size out a ≡ reads x)

-- ---- requests

abbrev pub command_bytes : ℕ → ℕ → List ℕ
command_bytes a s = 0x68 ∷ 0x04 ∷ 0x04 ∷ 0x68 ∷ 0x53 ∷ a ∷ 0x50 ∷ s ∷ (0x53 + a + 0x50 + s) % 256 ∷ 0x16 ∷ []

-- A read, an enter with each of the three methods, and a leave are written to every address wherever there are 5 places, or 10.
abbrev pub RequestsAreWritten : Type 0
RequestsAreWritten = (a : ℕ) (out : List ℕ)
    → (5 ≤ length out → request_for 2 a 0 out ≡ reads (map carrier (0x10 ∷ 0x5B ∷ a ∷ (0x5B + a) % 256 ∷ 0x16 ∷ [])))
    × ((s : ℕ) → (s ≡ 0x90) ⊎ ((s ≡ 0x91) ⊎ (s ≡ 0x92)) → 10 ≤ length out → request_for 3 a s out ≡ reads (map carrier (command_bytes a s)))
    × (10 ≤ length out → request_for 4 a 0 out ≡ reads (map carrier (command_bytes a 0x00)))

-- ---- the exchange

-- While it waits, every line not before the last step is a step,
abbrev pub LinesAreHeard : Type 0
LinesAreHeard = (x : Exchange) (line : List ℕ) (t : Clock) → x.state ≡ Waiting → x.last.0 ≤ t.0
    → (y : Exchange) × (answer (Busy x) (heard line t) ≡ reads y)

-- and so is every tick; one at most 450 after the send changes only the last time.
abbrev pub TicksAreSteps : Type 0
TicksAreSteps = (x : Exchange) (t : Clock) → x.state ≡ Waiting → x.last.0 ≤ t.0
    → ((y : Exchange) × (answer (Busy x) (tick t) ≡ reads y))
    × (t.0 ≤ x.began.0 + 450
    → answer (Busy x) (tick t) ≡ reads (record { request = x.request; state = Waiting; sends = x.sends; began = x.began; last = t }))

-- ---- the simulated meter

-- the quantity is there in structure 0C
abbrev pub InEightDigits : ℕ → Telegram → Type 0
InEightDigits quantity t = any (λ (e : Entry). eqb e.structure 0x0C && eqb (quantity_of e.unit) quantity) t.entries ≡ true

-- It is set up, in use and with verification totals of 0, by every data telegram that can be written and has energy and volume in structure 0C.
abbrev pub TemplatesAreTaken : Type 0
TemplatesAreTaken = (own : ℕ) (t : Telegram) → t.kind ≡ Data → unwritable t ≡ false → InEightDigits energy t → InEightDigits volume t
    → (m : Meter) × (set_up own t ≡ reads m) × (m.core.mode ≡ Use) × (m.core.address ≡ own) × (m.core.template ≡ t)
    × (m.core.verified ≡ record { volume = 0; energy = 0 })

-- Every line not before the last step is a step; and measuring is where no total of the pair in force would pass 99,999,999, else it is 71.
abbrev pub MeterSteps : Type 0
MeterSteps = (m : Meter) (t : Clock) → m.last.0 ≤ t.0
    → ((line : List ℕ) → (d : Deed) × (step_of m (hear line t) ≡ reads d))
    × ((v e : ℕ) → (in_force (returned t m.core)).volume + v ≤ 99999999 → (in_force (returned t m.core)).energy + e ≤ 99999999
    → (d : Deed) × (step_of m (measure v e t) ≡ reads d))
    × ((v e : ℕ) → (99999999 < (in_force (returned t m.core)).volume + v) ⊎ (99999999 < (in_force (returned t m.core)).energy + e)
    → step_of m (measure v e t) ≡ refusal 71)

-- ---- words and the version

-- the numbers that have words
abbrev pub worded_numbers : List ℕ
worded_numbers =
    1 ∷ 2 ∷ 3 ∷ 4 ∷ 5 ∷ 6 ∷ 7 ∷ 8 ∷ 9 ∷ 10 ∷ 11 ∷ 12 ∷ 13 ∷ 14 ∷ 16 ∷ 17 ∷ 18 ∷ 20 ∷ 21
    ∷ 30 ∷ 31 ∷ 32 ∷ 33 ∷ 34 ∷ 35 ∷ 36 ∷ 37 ∷ 38 ∷ 39 ∷ 40 ∷ 41 ∷ 42 ∷ 43 ∷ 50 ∷ 51 ∷ 52
    ∷ 60 ∷ 61 ∷ 62 ∷ 63 ∷ 64 ∷ 65 ∷ 70 ∷ 71 ∷ 72 ∷ 80 ∷ 81 ∷ 82 ∷ 83 ∷ 84 ∷ 85 ∷ 86 ∷ 90 ∷ 91 ∷ 100 ∷ 101 ∷ []

-- These numbers have words, which are put down wherever there is a place for each of their bytes and one more; every other number is 100.
abbrev pub WordsAreSaid : Type 0
WordsAreSaid =
    ((n : ℕ) → any (eqb n) worded_numbers ≡ true
    → (words : List ℕ) × (text_of n ≡ reads words) × ((out : List ℕ) → length words < length out → follow (text_of n) (fitted out) ≡ reads words))
    × ((n : ℕ) → any (eqb n) worded_numbers ≡ false → text_of n ≡ refusal 100)

-- The version is 1.1.0.
abbrev pub VersionIs : Type 0
VersionIs = version ≡ 65536 + 256
