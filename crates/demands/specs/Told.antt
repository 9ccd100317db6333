-- What C is told: the numbers of include/skarrowith.h, a request by its kind's number, and records read back, by values.
use Rattle.std.specs.Prelude.{ℕ, List, [], ◌∷◌, map, ◌≡◌, replicate}
use Rattle.base_rules.specs.Answers.{reads, refusal}
use Rattle.base_lent.specs.Pieces.{pieces}
use Rattle.base_numbers.specs.Numbers.{bytes_of}
use Rattle.base_characters.specs.Characters.{carrier}
use Rattle.mbus_rules.specs.declared.Request.{Request}
use Rattle.mbus_rules.specs.declared.Request.TheVariants.{Read, Enter, Leave}
use Rattle.mbus_rules.specs.FourFlips.{data_line}
use Rattle.mbus_rules.specs.Host.{host_number}
use Rattle.mbus_rules.specs.Telegrams.{ack, read_of, enter_of, leave_of}
use Rattle.mbus_rules.specs.Writing.{line_of}
use Rattle.mbus_records.specs.Telegrams.{telegram_from}
use Rattle.mbus_either.specs.declared.Interface.TheVariants.{Mbus, Optical}
use Rattle.mbus_length.specs.declared.HowLong.TheVariants.{Known, NotYet, NoLine}
use Rattle.cjt_rules.specs.declared.CjtTelegram.TheVariants as telegrams
use Rattle.cjt_rules.specs.CjtHost.{cjt_host_number}
use Rattle.cjt_records.specs.CjtRecords.{cjt_bytes, cjt_from}
use Rattle.exchange_steps.specs.declared.Cause.TheVariants.{Silent}
use Rattle.exchange_steps.specs.declared.Exchange.{Exchange}
use Rattle.exchange_steps.specs.declared.State.TheVariants.{Waiting, Resend, Well, Failed}
use Rattle.exchange_steps.specs.declared.Slot.TheVariants.{Busy}
use Rattle.exchange_record.specs.Exchanges.{state_number, slot_bytes, slot_from}
use Rattle.meter_steps.specs.Meters.{silence, says}
use Rattle.host_either.specs.Finding.{interface_number}
use Rattle.host_exchange.specs.Calls.{send_ended_for}
use Rattle.host_incoming.specs.Calls.{length_number, length_left}
use Rattle.host_lines.specs.Calls.{request_for}
use Rattle.host_meter.specs.Calls.{said_number}
use Rattle.demands.specs.CjtValues.{asks, tells, on_day, framed_by, all_of}
use Rattle.demands.specs.RecordBytes as records

-- the bytes of a line as a host hands them on
abbrev hosted : List ℕ → List ℕ
hosted line = pieces (bytes_of 2) line

-- skarrowith_check_line: 1 ack, 2 read, 3 enter, 4 leave, 5 data, or 256 plus the refusal number.
abbrev pub LinesTold : Type 0
LinesTold =
    (host_number (0xE5 ∷ 0x01 ∷ []) ≡ 1)
    × (host_number (hosted (line_of (read_of 0x2A))) ≡ 2)
    × (host_number (hosted (line_of (enter_of 0x2A 0x92))) ≡ 3)
    × (host_number (hosted (line_of (leave_of 0x2A))) ≡ 4)
    × (host_number (hosted data_line) ≡ 5)
    × (host_number (0xE5 ∷ 0x00 ∷ []) ≡ 259)
    × (host_number (0xE5 ∷ []) ≡ 273)

-- skarrowith_cjt_check_line: 1 request, 2 answer.
abbrev pub CjtLinesTold : Type 0
CjtLinesTold =
    (cjt_host_number (hosted (map carrier (framed_by 0x20 (all_of 0x11) asks))) ≡ 1)
    × (cjt_host_number (hosted (map carrier (framed_by 0x25 (all_of 0x11) (tells (on_day 0x29 0x02 0x00 0x20) 0x2C)))) ≡ 2)

-- The steps of an exchange answer 1 waiting, 2 resend, 3 well, 4 failed; a meter 0 silence, 1 ack, 5 data; the search of two captures 1 M-Bus, 2 optical.
abbrev pub StepsTold : Type 0
StepsTold =
    (state_number Waiting ≡ 1) × (state_number (Resend Silent) ≡ 2) × (state_number Well ≡ 3) × (state_number (Failed Silent) ≡ 4)
    × (said_number silence ≡ 0) × (said_number (says ack) ≡ 1) × (said_number (says records.differing) ≡ 5)
    × (interface_number Mbus ≡ 1) × (interface_number Optical ≡ 2)

-- The length of a line: 0 and the length, 1 where it is not yet known, 256 plus 18; only the first changes what was there.
abbrev pub LengthTold : Type 0
LengthTold =
    (n before : ℕ)
    → (length_number (Known n) ≡ 0) × (length_left (Known n) before ≡ n)
    × (length_number NotYet ≡ 1) × (length_left NotYet before ≡ before)
    × (length_number NoLine ≡ 274) × (length_left NoLine before ≡ before)

-- Requests by the numbers of their kinds: written into ten places,
abbrev pub RequestsByNumber : Type 0
RequestsByNumber =
    (request_for 2 0x2A 0 (replicate 10 0) ≡ reads (line_of (read_of 0x2A)))
    × (request_for 3 0x2A 0x91 (replicate 10 0) ≡ reads (line_of (enter_of 0x2A 0x91)))
    × (request_for 4 0x2A 0 (replicate 10 0) ≡ reads (line_of (leave_of 0x2A)))
    × (request_for 1 0 0 (replicate 10 0) ≡ reads (line_of ack))
    × (request_for 5 0x2A 0 (replicate 10 0) ≡ refusal 20)
    × (request_for 6 0x2A 0 (replicate 10 0) ≡ refusal 20)

abbrev began : Request → Exchange
began request = record { request = request; state = Waiting; sends = 1; began = record { 0 = 1000 }; last = record { 0 = 1000 } }

-- and begun in a record of zeros.
abbrev pub SendsByNumber : Type 0
SendsByNumber =
    (send_ended_for (replicate 24 0) 2 0x2A 0x91 1000 ≡ reads (began (Read 0x2A)))
    × (send_ended_for (replicate 24 0) 3 0x2A 0x91 1000 ≡ reads (began (Enter 0x2A 0x91)))
    × (send_ended_for (replicate 24 0) 4 0x2A 0x91 1000 ≡ reads (began (Leave 0x2A)))
    × (send_ended_for (replicate 24 0) 1 0 0 1000 ≡ refusal 42)
    × (send_ended_for (replicate 24 0) 5 0x2A 0 1000 ≡ refusal 42)
    × (send_ended_for (replicate 24 0) 6 0x2A 0 1000 ≡ refusal 42)

-- Records are read back: a telegram's and a CJ/T 188 answer's with any fields, an exchange's that has begun; a kind that is no request is 101.
abbrev pub RecordsRead : Type 0
RecordsRead =
    (telegram_from records.differing_bytes ≡ reads records.differing)
    × (cjt_from (cjt_bytes (telegrams.Answer records.cjt_differing)) ≡ reads (telegrams.Answer records.cjt_differing))
    × (slot_from (slot_bytes (Busy (began (Enter 0x2A 0x91)))) ≡ reads (Busy (began (Enter 0x2A 0x91))))
    × (slot_from (1 ∷ replicate 23 0) ≡ refusal 101)
