-- 01, "Values to hold against the rules": one list, one claim.
use Rattle.std.specs.Prelude.{ℕ, ◌+◌, ◌*◌, List, [], ◌∷◌, map, ◌≡◌, pos, neg_ℤ}
use Rattle.mbus_rules.specs.declared.Value.TheVariants.{Number, Time}
use Rattle.mbus_rules.specs.declared.Entry.{Entry}
use Rattle.mbus_rules.specs.declared.Header.{Header}
use Rattle.base_characters.specs.Characters.{byte_of}
use Rattle.base_rules.specs.Answers.{reads, refusal}
use Rattle.mbus_rules.specs.Quantities.{power_of}
use Rattle.mbus_rules.specs.Telegrams.{ack, read_of, enter_of, leave_of, data_of}
use Rattle.mbus_rules.specs.Lines.{read_line}
use Rattle.mbus_rules.specs.Writing.{line_of}
use Rattle.base_characters.specs.Flips.{flips}
use Rattle.mbus_rules.specs.FourFlips.{data_line, four}
use Rattle.bench_indication.specs.Errors.{indication_of}
use Rattle.exchange_steps.specs.declared.Cause.TheVariants.{Silent}
use Rattle.exchange_steps.specs.declared.State.TheVariants.{Resend, Well}
use Rattle.exchange_steps.specs.Values.{heard_after, entered_by}

-- every statement of a list holds
abbrev pub Hold : List (Type 0) → Type 0
Hold [] = Unit {0}
Hold (claim ∷ claims) = claim × Hold claims

-- a packed number, with its structure and unit
abbrev pub packed_entry : ℕ → ℕ → ℕ → Entry
packed_entry st u n = record { structure = st; unit = u; value = Number (record { count = pos n }) }

-- what 000's data example holds: meter 12345678, maker STI, access and status, and the entries in their order
abbrev pub example_header : ℕ → ℕ → Header
example_header access status =
    record { number = 12345678; maker = 1024 * 19 + (32 * 20 + 9); version = 1; meter_type = 4; access = access; status = status }

-- 2018-07-23 15:51:28, with the weekday, which 000 does not say
abbrev pub example_time : ℕ → Entry
example_time weekday = record {
  structure = 0x06;
  unit = 0x6D;
  value = Time (record { year = 18; month = 7; day = 23; hour = 15; minute = 51; second = 28; weekday = weekday });
}

abbrev pub example_entries : ℕ → List Entry
example_entries weekday =
    packed_entry 0x0C 0x03 96712345 ∷ packed_entry 0x0C 0x11 12345678 ∷ packed_entry 0x0B 0x59 7812 ∷ packed_entry 0x0B 0x5D 6534 ∷ packed_entry 0x0C 0x2D 12345678
    ∷ packed_entry 0x0C 0x3B 12345678 ∷ example_time weekday ∷ []

abbrev pub thirteen : List (Type 0)
thirteen =
    -- 1 to 3
    (read_line (0x1E5 ∷ []) ≡ reads ack)
    ∷ (read_line (0x0E5 ∷ []) ≡ refusal 3)
    ∷ (read_line [] ≡ refusal 1)
    -- 4 and 5: the read request, and the same with another sum
    ∷ (read_line (0x110 ∷ 0x15B ∷ 0x1FE ∷ 0x059 ∷ 0x116 ∷ []) ≡ reads (read_of 0xFE))
    ∷ (read_line (0x110 ∷ 0x15B ∷ 0x1FE ∷ 0x158 ∷ 0x116 ∷ []) ≡ refusal 8)
    -- 6 to 9: the sums of enter and leave at FE
    ∷ (map byte_of (line_of (enter_of 0xFE 0x90)) ≡ 0x68 ∷ 0x04 ∷ 0x04 ∷ 0x68 ∷ 0x53 ∷ 0xFE ∷ 0x50 ∷ 0x90 ∷ 0x31 ∷ 0x16 ∷ [])
    ∷ (map byte_of (line_of (enter_of 0xFE 0x91)) ≡ 0x68 ∷ 0x04 ∷ 0x04 ∷ 0x68 ∷ 0x53 ∷ 0xFE ∷ 0x50 ∷ 0x91 ∷ 0x32 ∷ 0x16 ∷ [])
    ∷ (map byte_of (line_of (enter_of 0xFE 0x92)) ≡ 0x68 ∷ 0x04 ∷ 0x04 ∷ 0x68 ∷ 0x53 ∷ 0xFE ∷ 0x50 ∷ 0x92 ∷ 0x33 ∷ 0x16 ∷ [])
    ∷ (map byte_of (line_of (leave_of 0xFE)) ≡ 0x68 ∷ 0x04 ∷ 0x04 ∷ 0x68 ∷ 0x53 ∷ 0xFE ∷ 0x50 ∷ 0x00 ∷ 0xA1 ∷ 0x16 ∷ [])
    -- 10: 000's data example; energy counts Wh, volume 10^−5 m³, inlet and outlet 10^−2 °C
    ∷ ((read_line data_line ≡ reads (data_of 0 (example_header 3 0) (example_entries 0)))
    × (power_of 0x03 ≡ pos 0) × (power_of 0x11 ≡ neg_ℤ (pos 5)) × (power_of 0x59 ≡ neg_ℤ (pos 2)) × (power_of 0x5D ≡ neg_ℤ (pos 2)))
    -- 11: four flips, accepted: the same with access 00 and status 03
    ∷ (read_line (flips four data_line) ≡ reads (data_of 0 (example_header 0 3) (example_entries 0)))
    -- 12: rises 10005, 9995, 10004 and 0 against 10000
    ∷ ((indication_of 0 10005 0 10000 ≡ reads (pos 1)) × (indication_of 0 9995 0 10000 ≡ reads (neg_ℤ (pos 1)))
    × (indication_of 0 10004 0 10000 ≡ reads (pos 0)) × (indication_of 0 0 0 10000 ≡ reads (neg_ℤ (pos 1000))))
    -- 13: a fitting line at 450 is taken; at 451 it is silence
    ∷ ((heard_after 450 ≡ entered_by Well 450) × (heard_after 451 ≡ entered_by (Resend Silent) 451))
    ∷ []

abbrev pub ThirteenHold : Type 0
ThirteenHold = Hold thirteen
