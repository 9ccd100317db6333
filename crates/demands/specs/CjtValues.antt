-- 02, "CJ/T 188 meters on the same bench": values from 001 and 002, and the neighbours of each rule, as one list.
use Rattle.std.specs.Prelude.{ℕ, List, [], ◌∷◌, ◌++◌, map, true, ◌≡◌, replicate}
use Rattle.base_characters.specs.Characters.{carrier}
use Rattle.base_rules.specs.Answers.{Answer, reads, refusal}
use Rattle.base_characters.specs.Flips.{Place, flips}
use Rattle.base_characters.specs.Closing.{closed}
use Rattle.cjt_rules.specs.declared.CjtAddress.{CjtAddress}
use Rattle.cjt_rules.specs.declared.CjtAddress.TheVariants.{Meter, Broadcast}
use Rattle.cjt_rules.specs.declared.CjtTelegram.{CjtTelegram}
use Rattle.cjt_rules.specs.declared.CjtTelegram.TheVariants as telegrams
use Rattle.cjt_rules.specs.CjtLines.{read_cjt_line}
use Rattle.cjt_rules.specs.CjtWriting.{cjt_line_of, unwritten}
use Rattle.demands.specs.Values.{Hold}

-- what is read of bytes, each sent with even parity
abbrev pub cjt_reads : List ℕ → Answer CjtTelegram
cjt_reads b = read_cjt_line (map carrier b)

-- a request that asks a meter of type 20
abbrev pub asking_of : CjtAddress → ℕ → CjtTelegram
asking_of address serial = telegrams.Request (record { meter_type = 0x20; address = address; serial = serial })

-- 001's read request, behind so many FE bytes
abbrev pub request_of001 : ℕ → List ℕ
request_of001 n =
    replicate n 0xFE
    ++ (0x68 ∷ 0x20 ∷ 0x78 ∷ 0x56 ∷ 0x34 ∷ 0x12 ∷ 0x00 ∷ 0x11 ∷ 0x11 ∷ 0x01 ∷ 0x03 ∷ 0x1F ∷ 0x90 ∷ 0x03 ∷ 0x74 ∷ 0x16 ∷ [])

-- a line with its sum
abbrev pub framed_by : ℕ → List ℕ → List ℕ → List ℕ
framed_by type address rest = closed (0x68 ∷ type ∷ (address ++ rest))

abbrev pub all_of : ℕ → List ℕ
all_of x = replicate 7 x

abbrev pub asks : List ℕ
asks = 0x01 ∷ 0x03 ∷ 0x1F ∷ 0x90 ∷ 0x03 ∷ []

-- An answer: 001's cold 2122.34 kWh, heat 1.00 MWh × 100, power 5.00 kW, flow 0.1234 m³/h, volume 12.34 m³, 80.25 and 60.00 °C, 4321 hours; then the
-- seven bytes of its clock.
abbrev pub values_of : List ℕ → ℕ → List ℕ
values_of clock code =
    0x34 ∷ 0x22 ∷ 0x21 ∷ 0x00 ∷ 0x05 ∷ 0x00 ∷ 0x01 ∷ 0x00 ∷ 0x00 ∷ 0x0A ∷ 0x00 ∷ 0x05 ∷ 0x00 ∷ 0x00 ∷ 0x17 ∷ 0x34 ∷ 0x12 ∷ 0x00 ∷ 0x00 ∷ 0x35
    ∷ 0x34 ∷ 0x12 ∷ 0x00 ∷ 0x00 ∷ code ∷ 0x25 ∷ 0x80 ∷ 0x00 ∷ 0x00 ∷ 0x60 ∷ 0x00 ∷ 0x21 ∷ 0x43 ∷ 0x00 ∷ (clock ++ (0xFC ∷ 0xFF ∷ []))

abbrev pub tells : List ℕ → ℕ → List ℕ
tells clock code = 0x81 ∷ 0x2E ∷ 0x1F ∷ 0x90 ∷ 0x03 ∷ values_of clock code

-- second, minute, hour, day, month, and the year's low and high two digits
abbrev pub on_day : ℕ → ℕ → ℕ → ℕ → List ℕ
on_day day month low high = 0x59 ∷ 0x59 ∷ 0x23 ∷ day ∷ month ∷ low ∷ high ∷ []

abbrev pub answer_on : ℕ → ℕ → ℕ → CjtTelegram
answer_on day month year = telegrams.Answer (record {
  meter_type = 0x25;
  address = 11110012345678;
  serial = 3;
  cold = record { count = 212234; code = 0x05 };
  heat = record { count = 100; code = 0x0A };
  power = record { count = 500; code = 0x17 };
  flow = record { count = 1234; code = 0x35 };
  volume = record { count = 1234; code = 0x2C };
  inlet = 8025;
  outlet = 6000;
  hours = 4321;
  clock = record { year = year; month = month; day = day; hour = 23; minute = 59; second = 59 };
  first_state = 0xFC;
  second_state = 0xFF;
})

-- an answer of a meter of type 25
abbrev pub told25 : List ℕ → ℕ → Answer CjtTelegram
told25 clock code = cjt_reads (framed_by 0x25 (0x78 ∷ 0x56 ∷ 0x34 ∷ 0x12 ∷ 0x00 ∷ 0x11 ∷ 0x11 ∷ []) (tells clock code))

-- four flips: serial number 03→00 and sum 74→71
abbrev pub four_of_request : List Place
four_of_request =
    record { character = 13; bit = 0 } ∷ record { character = 13; bit = 1 } ∷ record { character = 14; bit = 0 } ∷ record { character = 14; bit = 2 } ∷ []

abbrev pub cjt_values : List (Type 0)
cjt_values =
    -- 001's request with its five FE bytes, without them, with a sixth; FE bytes alone; nothing
    (cjt_reads (request_of001 5) ≡ reads (asking_of (Meter 11110012345678) 3))
    ∷ (cjt_reads (request_of001 0) ≡ reads (asking_of (Meter 11110012345678) 3))
    ∷ (cjt_reads (request_of001 6) ≡ refusal 80)
    ∷ (cjt_reads (replicate 5 0xFE) ≡ refusal 80)
    ∷ (cjt_reads [] ≡ refusal 1)
    -- a character over 511; FE in front without its parity bit
    ∷ (read_cjt_line (512 ∷ []) ≡ refusal 2)
    ∷ (read_cjt_line (0xFE ∷ map carrier (request_of001 0)) ≡ refusal 3)
    -- 001's broadcast with control 33 has length 00; 002's length 32 is no length either
    ∷ (cjt_reads (framed_by 0x20 (all_of 0xAA) (0x33 ∷ 0x00 ∷ [])) ≡ refusal 80)
    ∷ (cjt_reads (framed_by 0x25 (all_of 0x11) (0x81 ∷ 0x32 ∷ replicate 50 0x00)) ≡ refusal 80)
    -- 001's and 002's requests for high precision have another data mark
    ∷ (cjt_reads (framed_by 0x20 (0x78 ∷ 0x56 ∷ 0x34 ∷ 0x12 ∷ 0x00 ∷ 0x11 ∷ 0x11 ∷ []) (0x01 ∷ 0x03 ∷ 0x2F ∷ 0x90 ∷ 0x03 ∷ [])) ≡ refusal 83)
    ∷ (cjt_reads (framed_by 0x20 (all_of 0xAA) (0x01 ∷ 0x03 ∷ 0x3F ∷ 0x90 ∷ 0x03 ∷ [])) ≡ refusal 83)
    -- a broadcast; six AA; AA with 2E; type 24; an answer's control in a request
    ∷ (cjt_reads (framed_by 0x20 (all_of 0xAA) asks) ≡ reads (asking_of Broadcast 3))
    ∷ (cjt_reads (framed_by 0x20 (replicate 6 0xAA ++ (0x11 ∷ [])) asks) ≡ refusal 82)
    ∷ (cjt_reads (framed_by 0x20 (all_of 0xAA) (tells (on_day 0x29 0x02 0x00 0x20) 0x2C)) ≡ refusal 82)
    ∷ (cjt_reads (framed_by 0x24 (all_of 0x11) asks) ≡ refusal 82)
    ∷ (cjt_reads (framed_by 0x20 (all_of 0x11) (0x81 ∷ 0x03 ∷ 0x1F ∷ 0x90 ∷ 0x03 ∷ [])) ≡ refusal 83)
    -- a sum from the type byte on
    ∷ (cjt_reads (0x68 ∷ 0x20 ∷ 0x78 ∷ 0x56 ∷ 0x34 ∷ 0x12 ∷ 0x00 ∷ 0x11 ∷ 0x11 ∷ 0x01 ∷ 0x03 ∷ 0x1F ∷ 0x90 ∷ 0x03 ∷ 0x0C ∷ 0x16 ∷ []) ≡ refusal 81)
    -- 29 February 2000 and 0000, 31 December 9999; 29 February 1900; F in a digit
    ∷ (told25 (on_day 0x29 0x02 0x00 0x20) 0x2C ≡ reads (answer_on 29 2 2000))
    ∷ (told25 (on_day 0x29 0x02 0x00 0x00) 0x2C ≡ reads (answer_on 29 2 0))
    ∷ (told25 (on_day 0x31 0x12 0x99 0x99) 0x2C ≡ reads (answer_on 31 12 9999))
    ∷ (told25 (on_day 0x29 0x02 0x00 0x19) 0x2C ≡ refusal 84)
    ∷ (told25 (on_day 0x29 0x02 0x00 0xF0) 0x2C ≡ refusal 84)
    -- a volume in L/h
    ∷ (told25 (on_day 0x29 0x02 0x00 0x20) 0x32 ≡ refusal 85)
    -- written again; four flips of 001's request pass
    ∷ (cjt_line_of (asking_of (Meter 11110012345678) 3) ≡ map carrier (request_of001 0))
    ∷ (unwritten (answer_on 29 2 1900) ≡ true)
    ∷ (read_cjt_line (flips four_of_request (map carrier (request_of001 0))) ≡ reads (asking_of (Meter 11110012345678) 0))
    ∷ []

-- Both telegrams are reached, and every number that reading can give.
abbrev pub CjtValuesHold : Type 0
CjtValuesHold = Hold cjt_values
