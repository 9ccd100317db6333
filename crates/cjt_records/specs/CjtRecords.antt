-- The record of a CJ/T 188 telegram: `struct skarrowith_cjt_telegram` of include/skarrowith.h, 80 bytes, numbers low byte first.
use Rattle.std.specs.Prelude.{ℕ, ◌+◌, cond, List, [], ◌∷◌, ◌++◌, eqb, take, drop, replicate}
use Rattle.base_rules.specs.Answers.{Answer}
use Rattle.base_rules.specs.Lists.{at}
use Rattle.cjt_rules.specs.declared.CjtAddress.{CjtAddress}
use Rattle.cjt_rules.specs.declared.CjtAddress.TheVariants.{Meter, Broadcast}
use Rattle.cjt_rules.specs.declared.CjtRequest.{CjtRequest}
use Rattle.cjt_rules.specs.declared.CjtQuantity.{CjtQuantity}
use Rattle.cjt_rules.specs.declared.CjtClock.{CjtClock}
use Rattle.cjt_rules.specs.declared.CjtAnswer.{CjtAnswer}
use Rattle.cjt_rules.specs.declared.CjtTelegram.{CjtTelegram}
use Rattle.cjt_rules.specs.declared.CjtTelegram.TheVariants as telegrams
use Rattle.base_lent.specs.Pieces.{pieces}
use Rattle.base_numbers.specs.Numbers.{number, bytes_of}
use Rattle.base_lent.specs.Recorded.{recorded}

abbrev pub cjt_size : ℕ
cjt_size = 80

-- ---- written

-- broadcast 1 with address 0 for a broadcast request
abbrev pub broadcast_byte : CjtAddress → ℕ
broadcast_byte (Meter n) = 0
broadcast_byte Broadcast = 1

abbrev pub address_number : CjtAddress → ℕ
address_number (Meter n) = n
address_number Broadcast = 0

-- kind, type, serial, broadcast, the two state bytes, two of zero, the address
abbrev pub head_bytes : ℕ → ℕ → ℕ → ℕ → ℕ → ℕ → ℕ → List ℕ
head_bytes kind sort serial broadcast first second address =
    kind ∷ sort ∷ serial ∷ broadcast ∷ first ∷ second ∷ 0 ∷ 0 ∷ bytes_of 8 address

abbrev pub quantity_bytes : CjtQuantity → List ℕ
quantity_bytes q = bytes_of 4 q.count ++ (q.code ∷ 0 ∷ 0 ∷ 0 ∷ [])

abbrev pub clock_bytes : CjtClock → List ℕ
clock_bytes c = bytes_of 2 c.year ++ (c.month ∷ c.day ∷ c.hour ∷ c.minute ∷ c.second ∷ 0 ∷ [])

-- cold, heat, power, flow, volume
abbrev pub quantities_of : CjtAnswer → List CjtQuantity
quantities_of a = a.cold ∷ a.heat ∷ a.power ∷ a.flow ∷ a.volume ∷ []

-- inlet, outlet, hours, four bytes of zero, the clock
abbrev pub tail_bytes : CjtAnswer → List ℕ
tail_bytes a =
    bytes_of 4 a.inlet ++ (bytes_of 4 a.outlet ++ (bytes_of 4 a.hours ++ (0 ∷ 0 ∷ 0 ∷ 0 ∷ clock_bytes a.clock)))

-- what is not a request's is 0 there
unfoldable pub cjt_bytes : CjtTelegram → List ℕ
cjt_bytes (telegrams.Request q) =
    head_bytes 1 q.meter_type q.serial (broadcast_byte q.address) 0 0 (address_number q.address) ++ replicate 64 0
cjt_bytes (telegrams.Answer a) =
    head_bytes 2 a.meter_type a.serial 0 a.first_state a.second_state a.address
    ++ pieces quantity_bytes (quantities_of a) ++ tail_bytes a

-- ---- read

-- the number of so many bytes from a place on
abbrev pub number_in : List ℕ → ℕ → ℕ → ℕ
number_in b place width = number (take width (drop place b))

abbrev pub quantity_in : List ℕ → ℕ → CjtQuantity
quantity_in b place = record { count = number_in b place 4; code = at b (place + 4) }

abbrev pub clock_in : List ℕ → CjtClock
clock_in b = record { year = number_in b 72 2; month = at b 74; day = at b 75; hour = at b 76; minute = at b 77; second = at b 78 }

abbrev pub address_in : List ℕ → CjtAddress
address_in b = cond (eqb (at b 3) 1) Broadcast (Meter (number_in b 8 8))

abbrev pub request_in : List ℕ → CjtRequest
request_in b = record { meter_type = at b 1; address = address_in b; serial = at b 2 }

abbrev pub tells_in_record : List ℕ → CjtAnswer
tells_in_record b = record {
  meter_type = at b 1;
  address = number_in b 8 8;
  serial = at b 2;
  cold = quantity_in b 16;
  heat = quantity_in b 24;
  power = quantity_in b 32;
  flow = quantity_in b 40;
  volume = quantity_in b 48;
  inlet = number_in b 56 4;
  outlet = number_in b 60 4;
  hours = number_in b 64 4;
  clock = clock_in b;
  first_state = at b 4;
  second_state = at b 5;
}

unfoldable pub cjt_in : List ℕ → CjtTelegram
cjt_in b = cond (eqb (at b 0) 2) (telegrams.Answer (tells_in_record b)) (telegrams.Request (request_in b))

-- The telegram whose record the bytes are, or 101.
abbrev pub cjt_from : List ℕ → Answer CjtTelegram
cjt_from b = recorded cjt_bytes cjt_in b
