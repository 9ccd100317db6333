-- 02, 2026-08: the data of request and answer, and the refusals, lowest first after 1 to 3.
use Rattle.std.specs.Prelude.{ℕ, ◌+◌, Bool, cond, not, ◌||◌, List, map, ◌≡◌, eqb, length, take, drop}
use Rattle.base_rules.specs.Lists.{at, any}
use Rattle.base_characters.specs.Characters.{over, odd, byte_of}
use Rattle.base_rules.specs.Answers.{Answer, reads, refuse}
use Rattle.base_digits.specs.Digits.{over_nine, digits_of}
use Rattle.cjt_rules.specs.declared.CjtRequest.{CjtRequest}
use Rattle.cjt_rules.specs.declared.CjtQuantity.{CjtQuantity}
use Rattle.cjt_rules.specs.declared.CjtAnswer.{CjtAnswer}
use Rattle.cjt_rules.specs.declared.CjtTelegram.{CjtTelegram}
use Rattle.cjt_rules.specs.declared.CjtTelegram.TheVariants as telegrams
use Rattle.cjt_rules.specs.CjtFrames.{past_fe, asks_length, wrong_frame, wrong_frame_sum}
use Rattle.cjt_rules.specs.CjtAddresses.{party_bytes, party_of, wrong_party}
use Rattle.cjt_rules.specs.CjtUnits.{wrong_units}
use Rattle.cjt_rules.specs.CjtClocks.{clock_of, wrong_clock}

-- 83: the data do not begin with the mark 1F 90, or the control is not that length's: 01 with 03, 81 with 2E
abbrev pub wrong_mark : List ℕ → Bool
wrong_mark b = not (eqb (at b 11) 0x1F) || not (eqb (at b 12) 0x90) || not (eqb (at b 9) (cond (asks_length b) 0x01 0x81))

-- a serial number follows the mark
abbrev pub asks_with : List ℕ → CjtRequest
asks_with b = record { meter_type = at b 1; address = party_of (party_bytes b); serial = at b 13 }

-- 001's D1 and what follows it
abbrev pub listed_bytes : List ℕ → List ℕ
listed_bytes b = drop 14 b

-- so many bytes from a place on
abbrev pub part : ℕ → ℕ → List ℕ → List ℕ
part place width d = take width (drop place d)

-- a value of four bytes, and the code of its unit behind them
abbrev pub value_from : ℕ → List ℕ → CjtQuantity
value_from place d = record { count = digits_of (part place 4 d); code = at d (place + 4) }

-- D1–D5 cold, D6–D10 heat, D11–D15 power, D16–D20 flow, D21–D25 volume, D26–D28 inlet, D29–D31 outlet, D32–D34 hours, D35–D41 clock,
-- D42 and D43 the state
abbrev pub tells_in : (type address serial : ℕ) → List ℕ → CjtAnswer
tells_in type address serial d = record {
  meter_type = type;
  address = address;
  serial = serial;
  cold = value_from 0 d;
  heat = value_from 5 d;
  power = value_from 10 d;
  flow = value_from 15 d;
  volume = value_from 20 d;
  inlet = digits_of (part 25 3 d);
  outlet = digits_of (part 28 3 d);
  hours = digits_of (part 31 3 d);
  clock = clock_of (part 34 7 d);
  first_state = at d 41;
  second_state = at d 42;
}

-- behind type, address and serial number
abbrev pub tells_with : List ℕ → CjtAnswer
tells_with b = tells_in (at b 1) (digits_of (party_bytes b)) (at b 13) (listed_bytes b)

abbrev pub wrong_part : ℕ → ℕ → List ℕ → Bool
wrong_part place width d = any over_nine (part place width d)

-- 84: a digit over 9 in the five values, the two temperatures, the hours and the clock, or a clock that shows no date or time of day
abbrev pub wrong_listed : List ℕ → Bool
wrong_listed d =
    wrong_part 0 4 d || wrong_part 5 4 d || wrong_part 10 4 d || wrong_part 15 4 d || wrong_part 20 4 d
    || wrong_part 25 3 d || wrong_part 28 3 d || wrong_part 31 3 d || wrong_part 34 7 d || wrong_clock (clock_of (part 34 7 d))

-- a request has no more; an answer's values come with their units
abbrev pub read_listed : List ℕ → Answer CjtTelegram
read_listed b =
    cond (asks_length b) (reads (telegrams.Request (asks_with b)))
    (refuse 84 (wrong_listed (listed_bytes b))
    (refuse 85 (wrong_units (tells_with b))
    (reads (telegrams.Answer (tells_with b)))))

-- the line, on the bytes behind the FE bytes
unfoldable pub read_cjt_frame : List ℕ → Answer CjtTelegram
read_cjt_frame b =
    refuse 80 (wrong_frame b)
    (refuse 81 (wrong_frame_sum b)
    (refuse 82 (wrong_party b)
    (refuse 83 (wrong_mark b)
    (read_listed b))))

-- The whole answer of reading a line. 1, 2 and 3 are asked of all characters, those of FE bytes in front too.
unfoldable pub read_cjt_line : List ℕ → Answer CjtTelegram
read_cjt_line s =
    refuse 1 (eqb (length s) 0)
    (refuse 2 (any over s)
    (refuse 3 (any odd s)
    (read_cjt_frame (past_fe 5 (map byte_of s)))))

-- A line is accepted where reading it gives a telegram.
abbrev pub CjtAccepted : List ℕ → Type 0
CjtAccepted s = (t : CjtTelegram) × (read_cjt_line s ≡ reads t)
