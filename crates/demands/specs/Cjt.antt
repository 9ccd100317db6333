-- 02, "CJ/T 188 meters on the same bench": demands 2 and 3 for these lines, and FE bytes in front of them.
use Rattle.std.specs.Prelude.{ℕ, ◌≤◌, ◌<◌, true, false, ◌↔◌, ◌≢◌, ◌≡◌, length, drop, replicate}
use mathlib.Core.List.{List, [], ◌∷◌, ◌++◌, flatten}
use Rattle.base_lent.specs.Lent.{stored}
use Rattle.base_rules.specs.Lists.{at}
use Rattle.base_characters.specs.Characters.{carrier}
use Rattle.base_rules.specs.Answers.{reads, refusal}
use Rattle.base_characters.specs.Flips.{Place, Places, flips}
use Rattle.base_rules.specs.Each.{Each}
use Rattle.cjt_rules.specs.declared.CjtRequest.{CjtRequest}
use Rattle.cjt_rules.specs.declared.CjtAnswer.{CjtAnswer}
use Rattle.cjt_rules.specs.declared.CjtTelegram.{CjtTelegram}
use Rattle.cjt_rules.specs.declared.CjtTelegram.TheVariants as telegrams
use Rattle.cjt_rules.specs.CjtLines.{read_cjt_line, CjtAccepted}
use Rattle.cjt_rules.specs.CjtWriting.{cjt_line_of, unwritten, write_cjt_line}
use Rattle.cjt_rules.specs.CjtSizes.{CjtSized}

-- What is accepted: none to five FE bytes and the line of a telegram that can be written, and nothing else; it reads as that telegram. (`CjtSized`:
-- each field is in the range of its type.)
abbrev pub WhatIsAcceptedOfCjt : Type 0
WhatIsAcceptedOfCjt =
    (s : List ℕ) (t : CjtTelegram)
    → (read_cjt_line s ≡ reads t) ↔ ((n : ℕ) × (n ≤ 5) × (s ≡ replicate n (carrier 0xFE) ++ cjt_line_of t) × CjtSized t × (unwritten t ≡ false))

-- Up to five FE bytes in front of a line that is not empty and does not begin with FE change nothing in the answer.
abbrev pub FrontIsSkipped : Type 0
FrontIsSkipped = (n c : ℕ) (s : List ℕ) → n ≤ 5 → c ≢ carrier 0xFE → read_cjt_line (replicate n (carrier 0xFE) ++ c ∷ s) ≡ read_cjt_line (c ∷ s)

-- ---- demand 3, for lines with their FE bytes and without

-- For every accepted line and every one, two or three different places within it, the line flipped there is not accepted. (`CjtValues`: four flips
-- can pass.)
abbrev pub CjtFlipsAreRefused : Type 0
CjtFlipsAreRefused = (s : List ℕ) (ps : List Place) → CjtAccepted s → Places s ps → 1 ≤ length ps → length ps ≤ 3 → ¬ CjtAccepted (flips ps s)

-- No accepted line is the start of a longer accepted one.
abbrev pub NoCjtLineGoesOn : Type 0
NoCjtLineGoesOn = (s t : List ℕ) → CjtAccepted s → CjtAccepted (s ++ t) → t ≡ []

-- Accepted lines joined end to end are cut back in exactly one way.
abbrev pub CjtOneCut : Type 0
CjtOneCut = (ss ts : List (List ℕ)) → Each CjtAccepted ss → Each CjtAccepted ts → flatten ss ≡ flatten ts → ss ≡ ts

-- ---- demand 2, for lines without their FE bytes

-- An accepted line that does not begin with FE, read and written into enough places, gives the same characters in the first of them, and nothing
-- beyond changes.
abbrev pub CjtReadAndWrite : Type 0
CjtReadAndWrite =
    (s : List ℕ) (t : CjtTelegram) (out : List ℕ) → at s 0 ≢ carrier 0xFE → read_cjt_line s ≡ reads t → length s ≤ length out
    → (write_cjt_line t (length out) ≡ reads s) × (stored (λ (line : List ℕ). line) out (write_cjt_line t (length out)) ≡ s ++ drop (length s) out)

-- A telegram that can be written, written into enough places and read, gives itself.
abbrev pub CjtWriteAndRead : Type 0
CjtWriteAndRead =
    (t : CjtTelegram) (out : List ℕ) → CjtSized t → unwritten t ≡ false → length (cjt_line_of t) ≤ length out
    → (s : List ℕ) × (write_cjt_line t (length out) ≡ reads s) × (read_cjt_line s ≡ reads t)

-- Too few places is 21, and 21 is nothing else.
abbrev pub TooFewForCjt : Type 0
TooFewForCjt = (t : CjtTelegram) (places : ℕ) → unwritten t ≡ false → places < length (cjt_line_of t) → write_cjt_line t places ≡ refusal 21

-- 20 is given exactly where no accepted line reads as the telegram.
abbrev pub CjtCannotBeWritten : Type 0
CjtCannotBeWritten = (t : CjtTelegram) → CjtSized t → (unwritten t ≡ true) ↔ ((s : List ℕ) → read_cjt_line s ≡ reads t → ⊥)

abbrev pub CjtRefusedBy20 : Type 0
CjtRefusedBy20 = (t : CjtTelegram) (places : ℕ) → unwritten t ≡ true → write_cjt_line t places ≡ refusal 20

-- A request has 16 characters, an answer 59.
abbrev pub CjtLengths : Type 0
CjtLengths = ((q : CjtRequest) → length (cjt_line_of (telegrams.Request q)) ≡ 16) × ((a : CjtAnswer) → length (cjt_line_of (telegrams.Answer a)) ≡ 59)

-- an answer with another serial number and other state bytes
abbrev pub with_state : CjtAnswer → ℕ → ℕ → ℕ → CjtAnswer
with_state a serial first second = record {
  meter_type = a.meter_type;
  address = a.address;
  serial = serial;
  cold = a.cold;
  heat = a.heat;
  power = a.power;
  flow = a.flow;
  volume = a.volume;
  inlet = a.inlet;
  outlet = a.outlet;
  hours = a.hours;
  clock = a.clock;
  first_state = first;
  second_state = second;
}

-- State and reserved bits are kept as sent, and a serial number is any byte: whether an answer can be written does not depend on them.
abbrev pub AnyStateWritten : Type 0
AnyStateWritten =
    (a : CjtAnswer) (serial first second : ℕ)
    → unwritten (telegrams.Answer (with_state a serial first second)) ≡ unwritten (telegrams.Answer a)
