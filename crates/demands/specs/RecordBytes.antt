-- Records of include/skarrowith.h, byte for byte: of each a value in which all fields differ, as the struct in the header has them.
use Rattle.std.specs.Prelude.{ℕ, List, [], ◌∷◌, ◌≡◌, pos, neg_ℤ, replicate}
use Rattle.bench_clock.specs.declared.Clock.{Clock}
use Rattle.mbus_rules.specs.declared.Kind.TheVariants as kinds
use Rattle.mbus_rules.specs.declared.Request.TheVariants.{Read, Enter, Leave}
use Rattle.mbus_rules.specs.declared.Value.{Value}
use Rattle.mbus_rules.specs.declared.Value.TheVariants.{Number, Time, Binary}
use Rattle.mbus_rules.specs.declared.Entry.{Entry}
use Rattle.mbus_rules.specs.declared.Telegram.{Telegram}
use Rattle.mbus_records.specs.Telegrams.{telegram_bytes}
use Rattle.mbus_search.specs.Searching.{spot_at}
use Rattle.mbus_after.specs.After.{timed_at}
use Rattle.exchange_steps.specs.declared.Cause.TheVariants.{Silent, Damaged, WrongKind}
use Rattle.exchange_steps.specs.declared.Exchange.{Exchange}
use Rattle.exchange_steps.specs.declared.State.{State}
use Rattle.exchange_steps.specs.declared.State.TheVariants.{Waiting, Resend, Well, Failed}
use Rattle.mbus_rules.specs.declared.Request.{Request}
use Rattle.exchange_record.specs.Exchanges.{exchange_bytes}
use Rattle.meter_steps.specs.declared.Meter.{Meter}
use Rattle.meter_steps.specs.declared.Mode.{Mode}
use Rattle.meter_steps.specs.declared.Mode.TheVariants.{Use, Verifying}
use Rattle.meter_record.specs.MeterRecords.{meter_bytes}
use Rattle.cjt_rules.specs.declared.CjtAddress.{CjtAddress}
use Rattle.cjt_rules.specs.declared.CjtAddress.TheVariants as addresses
use Rattle.cjt_rules.specs.declared.CjtAnswer.{CjtAnswer}
use Rattle.cjt_rules.specs.declared.CjtTelegram.TheVariants as telegrams
use Rattle.cjt_records.specs.CjtRecords.{cjt_bytes}
use Rattle.host_search.specs.Finding.{spot_bytes}
use Rattle.host_incoming.specs.Calls.{timed_bytes}
use Rattle.host_meaning.specs.Meanings.{meant, meaning_bytes}

-- ---- struct skarrowith_telegram, 136 bytes

abbrev entry : ℕ → ℕ → Value → Entry
entry structure unit value = record { structure = structure; unit = unit; value = value }

abbrev digits : ℕ → Value
digits n = Number (record { count = pos n })

-- packed digits, a point in time, a number in binary below zero, and four more entries
abbrev pub seven_entries : List Entry
seven_entries =
    entry 0xA1 0xA2 (digits 0x1716151413121110)
    ∷ entry 0xA3 0xA4 (Time (record { year = 0x21; month = 0x22; day = 0x23; hour = 0x24; minute = 0x25; second = 0x26; weekday = 0x27 }))
    ∷ entry 0xA5 0xA6 (Binary (record { count = neg_ℤ (pos 0x0908070605040302) }))
    ∷ entry 0xA7 0xA8 (digits 0x31)
    ∷ entry 0xA9 0xAA (digits 0x32)
    ∷ entry 0xAB 0xAC (digits 0x33)
    ∷ entry 0xAD 0xAE (digits 0x34)
    ∷ []

abbrev pub differing : Telegram
differing = record {
  kind = kinds.Data;
  address = 0x41;
  method = 0x42;
  header = record { number = 0x47464544; maker = 0x4948; version = 0x43; meter_type = 0x4A; access = 0x4B; status = 0x4C };
  count = 0x8786858483828180;
  entries = seven_entries;
}

-- kind, address, method, version; number; maker; meter_type, access, status, zero[3]; count; then structure, unit, sort, zero[5] and value of each entry
abbrev pub differing_bytes : List ℕ
differing_bytes =
    0x05 ∷ 0x41 ∷ 0x42 ∷ 0x43 ∷ 0x44 ∷ 0x45 ∷ 0x46 ∷ 0x47 ∷ 0x48 ∷ 0x49 ∷ 0x4A ∷ 0x4B ∷ 0x4C ∷ 0x00 ∷ 0x00 ∷ 0x00
    ∷ 0x80 ∷ 0x81 ∷ 0x82 ∷ 0x83 ∷ 0x84 ∷ 0x85 ∷ 0x86 ∷ 0x87 ∷ 0xA1 ∷ 0xA2 ∷ 0x00 ∷ 0x00 ∷ 0x00 ∷ 0x00 ∷ 0x00 ∷ 0x00
    ∷ 0x10 ∷ 0x11 ∷ 0x12 ∷ 0x13 ∷ 0x14 ∷ 0x15 ∷ 0x16 ∷ 0x17 ∷ 0xA3 ∷ 0xA4 ∷ 0x01 ∷ 0x00 ∷ 0x00 ∷ 0x00 ∷ 0x00 ∷ 0x00
    ∷ 0x21 ∷ 0x22 ∷ 0x23 ∷ 0x24 ∷ 0x25 ∷ 0x26 ∷ 0x27 ∷ 0x00 ∷ 0xA5 ∷ 0xA6 ∷ 0x02 ∷ 0x00 ∷ 0x00 ∷ 0x00 ∷ 0x00 ∷ 0x00
    ∷ 0xFE ∷ 0xFC ∷ 0xFB ∷ 0xFA ∷ 0xF9 ∷ 0xF8 ∷ 0xF7 ∷ 0xF6 ∷ 0xA7 ∷ 0xA8 ∷ 0x00 ∷ 0x00 ∷ 0x00 ∷ 0x00 ∷ 0x00 ∷ 0x00
    ∷ 0x31 ∷ 0x00 ∷ 0x00 ∷ 0x00 ∷ 0x00 ∷ 0x00 ∷ 0x00 ∷ 0x00 ∷ 0xA9 ∷ 0xAA ∷ 0x00 ∷ 0x00 ∷ 0x00 ∷ 0x00 ∷ 0x00 ∷ 0x00
    ∷ 0x32 ∷ 0x00 ∷ 0x00 ∷ 0x00 ∷ 0x00 ∷ 0x00 ∷ 0x00 ∷ 0x00 ∷ 0xAB ∷ 0xAC ∷ 0x00 ∷ 0x00 ∷ 0x00 ∷ 0x00 ∷ 0x00 ∷ 0x00
    ∷ 0x33 ∷ 0x00 ∷ 0x00 ∷ 0x00 ∷ 0x00 ∷ 0x00 ∷ 0x00 ∷ 0x00 ∷ 0xAD ∷ 0xAE ∷ 0x00 ∷ 0x00 ∷ 0x00 ∷ 0x00 ∷ 0x00 ∷ 0x00
    ∷ 0x34 ∷ 0x00 ∷ 0x00 ∷ 0x00 ∷ 0x00 ∷ 0x00 ∷ 0x00 ∷ 0x00 ∷ []

abbrev pub TelegramLayout : Type 0
TelegramLayout = telegram_bytes differing ≡ differing_bytes

-- ---- struct skarrowith_exchange, 24 bytes

abbrev at : ℕ → Clock
at n = record { 0 = n }

abbrev exchange : Request → State → ℕ → ℕ → ℕ → Exchange
exchange request state sends began last = record { request = request; state = state; sends = sends; began = at began; last = at last }

-- kind, address, method, state, cause, sends, zero[2]; began; last. The three requests, the four states and the three causes.
abbrev pub ExchangeLayout : Type 0
ExchangeLayout =
    (exchange_bytes (exchange (Enter 0x2A 0x91) (Failed Damaged) 1 0x1716151413121110 0x2726252423222120)
    ≡ 3 ∷ 0x2A ∷ 0x91 ∷ 4 ∷ 2 ∷ 1 ∷ 0 ∷ 0
    ∷ 0x10 ∷ 0x11 ∷ 0x12 ∷ 0x13 ∷ 0x14 ∷ 0x15 ∷ 0x16 ∷ 0x17 ∷ 0x20 ∷ 0x21 ∷ 0x22 ∷ 0x23 ∷ 0x24 ∷ 0x25 ∷ 0x26 ∷ 0x27 ∷ [])
    × (exchange_bytes (exchange (Read 0x2B) (Resend WrongKind) 1 5 7)
    ≡ 2 ∷ 0x2B ∷ 0 ∷ 2 ∷ 3 ∷ 1 ∷ 0 ∷ 0 ∷ 5 ∷ 0 ∷ 0 ∷ 0 ∷ 0 ∷ 0 ∷ 0 ∷ 0 ∷ 7 ∷ 0 ∷ 0 ∷ 0 ∷ 0 ∷ 0 ∷ 0 ∷ 0 ∷ [])
    × (exchange_bytes (exchange (Leave 0x2C) (Resend Silent) 2 5 7)
    ≡ 4 ∷ 0x2C ∷ 0 ∷ 2 ∷ 1 ∷ 2 ∷ 0 ∷ 0 ∷ 5 ∷ 0 ∷ 0 ∷ 0 ∷ 0 ∷ 0 ∷ 0 ∷ 0 ∷ 7 ∷ 0 ∷ 0 ∷ 0 ∷ 0 ∷ 0 ∷ 0 ∷ 0 ∷ [])
    × (exchange_bytes (exchange (Read 0x2B) Waiting 3 5 7)
    ≡ 2 ∷ 0x2B ∷ 0 ∷ 1 ∷ 0 ∷ 3 ∷ 0 ∷ 0 ∷ 5 ∷ 0 ∷ 0 ∷ 0 ∷ 0 ∷ 0 ∷ 0 ∷ 0 ∷ 7 ∷ 0 ∷ 0 ∷ 0 ∷ 0 ∷ 0 ∷ 0 ∷ 0 ∷ [])
    × (exchange_bytes (exchange (Read 0x2B) Well 1 5 7)
    ≡ 2 ∷ 0x2B ∷ 0 ∷ 3 ∷ 0 ∷ 1 ∷ 0 ∷ 0 ∷ 5 ∷ 0 ∷ 0 ∷ 0 ∷ 0 ∷ 0 ∷ 0 ∷ 0 ∷ 7 ∷ 0 ∷ 0 ∷ 0 ∷ 0 ∷ 0 ∷ 0 ∷ 0 ∷ [])

-- ---- struct skarrowith_meter, 192 bytes

abbrev meter : Mode → Meter
meter mode = record {
  last = at 0x0807060504030201;
  core = record {
    address = 0x51;
    mode = mode;
    used = record { volume = 0x2726252423222120; energy = 0x3736353433323130 };
    verified = record { volume = 0x4746454443424140; energy = 0x5756555453525150 };
    template = differing;
  };
}

-- the totals in use, and those in verification, the volume first; then data
abbrev pub totals_and_data : List ℕ
totals_and_data =
    0x20 ∷ 0x21 ∷ 0x22 ∷ 0x23 ∷ 0x24 ∷ 0x25 ∷ 0x26 ∷ 0x27 ∷ 0x30 ∷ 0x31 ∷ 0x32 ∷ 0x33 ∷ 0x34 ∷ 0x35 ∷ 0x36 ∷ 0x37
    ∷ 0x40 ∷ 0x41 ∷ 0x42 ∷ 0x43 ∷ 0x44 ∷ 0x45 ∷ 0x46 ∷ 0x47 ∷ 0x50 ∷ 0x51 ∷ 0x52 ∷ 0x53 ∷ 0x54 ∷ 0x55 ∷ 0x56 ∷ 0x57 ∷ differing_bytes

-- last; address, mode, method, zero[5]; since; used and verified; data. In use mode, method and since are 0.
abbrev pub MeterLayout : Type 0
MeterLayout =
    (meter_bytes (meter (Verifying 0x92 (at 0x1716151413121110)))
    ≡ 0x01 ∷ 0x02 ∷ 0x03 ∷ 0x04 ∷ 0x05 ∷ 0x06 ∷ 0x07 ∷ 0x08 ∷ 0x51 ∷ 1 ∷ 0x92 ∷ 0 ∷ 0 ∷ 0 ∷ 0 ∷ 0
    ∷ 0x10 ∷ 0x11 ∷ 0x12 ∷ 0x13 ∷ 0x14 ∷ 0x15 ∷ 0x16 ∷ 0x17 ∷ totals_and_data)
    × (meter_bytes (meter Use)
    ≡ 0x01 ∷ 0x02 ∷ 0x03 ∷ 0x04 ∷ 0x05 ∷ 0x06 ∷ 0x07 ∷ 0x08 ∷ 0x51 ∷ 0 ∷ 0 ∷ 0 ∷ 0 ∷ 0 ∷ 0 ∷ 0
    ∷ 0 ∷ 0 ∷ 0 ∷ 0 ∷ 0 ∷ 0 ∷ 0 ∷ 0 ∷ totals_and_data)

-- ---- struct skarrowith_found and skarrowith_found_after, 16 and 24 bytes: place, length, time

abbrev pub FoundLayout : Type 0
FoundLayout =
    (spot_bytes (spot_at 0x0201 0x0403) ≡ 1 ∷ 2 ∷ 0 ∷ 0 ∷ 0 ∷ 0 ∷ 0 ∷ 0 ∷ 3 ∷ 4 ∷ 0 ∷ 0 ∷ 0 ∷ 0 ∷ 0 ∷ 0 ∷ [])
    × (timed_bytes (timed_at 0x0201 0x0403 0x0C0B0A0908070605)
    ≡ 1 ∷ 2 ∷ 0 ∷ 0 ∷ 0 ∷ 0 ∷ 0 ∷ 0 ∷ 3 ∷ 4 ∷ 0 ∷ 0 ∷ 0 ∷ 0 ∷ 0 ∷ 0 ∷ 5 ∷ 6 ∷ 7 ∷ 8 ∷ 9 ∷ 10 ∷ 11 ∷ 12 ∷ [])

-- ---- struct skarrowith_meaning, 4 bytes: quantity, unit, power, zero

abbrev pub MeaningLayout : Type 0
MeaningLayout = (meaning_bytes (meant 1 3 (neg_ℤ (pos 5))) ≡ 1 ∷ 3 ∷ 0xFB ∷ 0 ∷ []) × (meaning_bytes (meant 2 4 (pos 7)) ≡ 2 ∷ 4 ∷ 7 ∷ 0 ∷ [])

-- ---- struct skarrowith_cjt_telegram, 80 bytes

abbrev pub cjt_differing : CjtAnswer
cjt_differing = record {
  meter_type = 0x11;
  address = 0x1F1E1D1C1B1A1918;
  serial = 0x12;
  cold = record { count = 0x23222120; code = 0x24 };
  heat = record { count = 0x2B2A2928; code = 0x2C };
  power = record { count = 0x33323130; code = 0x34 };
  flow = record { count = 0x3B3A3938; code = 0x3C };
  volume = record { count = 0x43424140; code = 0x44 };
  inlet = 0x4B4A4948;
  outlet = 0x4F4E4D4C;
  hours = 0x53525150;
  clock = record { year = 0x5958; month = 0x5A; day = 0x5B; hour = 0x5C; minute = 0x5D; second = 0x5E };
  first_state = 0x14;
  second_state = 0x15;
}

-- kind, type, serial, broadcast, state[2], zero[2]; address; cold, heat, power, flow, volume with their codes; inlet, outlet, hours, zero_too; clock
abbrev pub CjtAnswerLayout : Type 0
CjtAnswerLayout =
    cjt_bytes (telegrams.Answer cjt_differing)
    ≡ 0x02 ∷ 0x11 ∷ 0x12 ∷ 0x00 ∷ 0x14 ∷ 0x15 ∷ 0x00 ∷ 0x00 ∷ 0x18 ∷ 0x19 ∷ 0x1A ∷ 0x1B ∷ 0x1C ∷ 0x1D ∷ 0x1E ∷ 0x1F
    ∷ 0x20 ∷ 0x21 ∷ 0x22 ∷ 0x23 ∷ 0x24 ∷ 0x00 ∷ 0x00 ∷ 0x00 ∷ 0x28 ∷ 0x29 ∷ 0x2A ∷ 0x2B ∷ 0x2C ∷ 0x00 ∷ 0x00 ∷ 0x00
    ∷ 0x30 ∷ 0x31 ∷ 0x32 ∷ 0x33 ∷ 0x34 ∷ 0x00 ∷ 0x00 ∷ 0x00 ∷ 0x38 ∷ 0x39 ∷ 0x3A ∷ 0x3B ∷ 0x3C ∷ 0x00 ∷ 0x00 ∷ 0x00
    ∷ 0x40 ∷ 0x41 ∷ 0x42 ∷ 0x43 ∷ 0x44 ∷ 0x00 ∷ 0x00 ∷ 0x00 ∷ 0x48 ∷ 0x49 ∷ 0x4A ∷ 0x4B ∷ 0x4C ∷ 0x4D ∷ 0x4E ∷ 0x4F
    ∷ 0x50 ∷ 0x51 ∷ 0x52 ∷ 0x53 ∷ 0x00 ∷ 0x00 ∷ 0x00 ∷ 0x00 ∷ 0x58 ∷ 0x59 ∷ 0x5A ∷ 0x5B ∷ 0x5C ∷ 0x5D ∷ 0x5E ∷ 0x00 ∷ []

abbrev asking : CjtAddress → List ℕ
asking address = cjt_bytes (telegrams.Request (record { meter_type = 0x11; address = address; serial = 0x12 }))

-- of one meter, and of all
abbrev pub CjtRequestLayout : Type 0
CjtRequestLayout =
    (asking (addresses.Meter 0x1F1E1D1C1B1A1918)
    ≡ 1 ∷ 0x11 ∷ 0x12 ∷ 0 ∷ 0 ∷ 0 ∷ 0 ∷ 0 ∷ 0x18 ∷ 0x19 ∷ 0x1A ∷ 0x1B ∷ 0x1C ∷ 0x1D ∷ 0x1E ∷ 0x1F ∷ replicate 64 0)
    × (asking addresses.Broadcast ≡ 1 ∷ 0x11 ∷ 0x12 ∷ 1 ∷ replicate 76 0)
