-- 02, 2026-04: what the replay takes from the answers that count and which number it refuses by,
-- and a bundle that is replayed.
use Rattle.std.specs.Prelude.{ℕ, ◌+◌, ◌*◌, ◌-◌, ◌^◌, ◌≤◌, ◌<◌, false, ◌⊎◌, ◌≡◌, ℤ, pos, ◌-ℤ◌, ◌*ℤ◌}
use mathlib.Core.List.{List, [], ◌∷◌, ◌++◌, Memᴰ}
use Rattle.base_lent.specs.Pieces.{pieces}
use Rattle.base_numbers.specs.Numbers.{bytes_of}
use Rattle.base_numbers.specs.Rounding.{Nearest}
use Rattle.base_rules.specs.Answers.{reads, refusal}
use Rattle.base_characters.specs.Characters.{chars}
use Rattle.mbus_rules.specs.declared.Entry.{Entry}
use Rattle.mbus_rules.specs.declared.Kind.TheVariants.{Data}
use Rattle.mbus_rules.specs.declared.Moment.{Moment}
use Rattle.mbus_rules.specs.declared.Telegram.{Telegram}
use Rattle.mbus_rules.specs.declared.Value.{Value}
use Rattle.mbus_rules.specs.declared.Value.TheVariants.{Number, Time, Binary}
use Rattle.mbus_rules.specs.Lines.{read_line}
use Rattle.mbus_rules.specs.Telegrams.{read_of, data_of}
use Rattle.mbus_rules.specs.Writing.{line_of}
use Rattle.bench_clock.specs.Wakes.{is_wake}
use Rattle.bundle_check.specs.Bundles.{check_of}
use Rattle.bundle_check.specs.Records.{Recorded, records_of, bundle_of}
use Rattle.run_calendar.specs.Days.{interval}
use Rattle.run_counting.specs.Counting.{looked_at, answers_of}
use Rattle.run_replay.specs.Errors.{row_tells, error_of_figures, replay_of}

-- ---- what is taken

-- Every row of the position that is no wake-up is looked at.
abbrev pub OwnRowsLookedAt : Type 0
OwnRowsLookedAt =
    (position : ℕ) (k : Recorded) (ks : List Recorded) → k.position ≡ position → is_wake (chars k.body) ≡ false
    → looked_at position (k ∷ ks) ≡ k ∷ looked_at position ks

-- A value is a count of the last digit, as digits or in binary.
abbrev pub Counted : Value → ℕ → Type 0
Counted v count = (v ≡ Number (record { count = pos count })) ⊎ (v ≡ Binary (record { count = pos count }))

-- What an answer says of volume and time: its line reads as a telegram; of its entries one has a unit byte from 10 to 17, which is 10^(n−6) m³, so that a
-- count of it is 10^n millilitres, and one has the unit byte 6D.
pub record Tells (k : Recorded) (millilitres : ℕ) (time : Moment) : Type 0 where
  pub telegram : Telegram
  pub read : read_line (chars k.body) ≡ reads telegram
  pub volume : Entry
  pub volume_there : Memᴰ volume telegram.entries
  pub n : ℕ
  pub unit : (n < 8) × (volume.unit ≡ 0x10 + n)
  pub count : ℕ
  pub counted : Counted volume.value count
  pub exact : millilitres ≡ count * 10 ^ n
  pub clock : Entry
  pub clock_there : Memᴰ clock telegram.entries
  pub clock_unit : clock.unit ≡ 0x6D
  pub clock_time : clock.value ≡ Time time

-- Every line of data says both.
abbrev pub EveryDataLineSays : Type 0
EveryDataLineSays =
    (k : Recorded) (t : Telegram) → read_line (chars k.body) ≡ reads t → t.kind ≡ Data → (millilitres : ℕ) × (time : Moment) × Tells k millilitres time

-- That is what is taken from a row.
abbrev pub WhatARowTells : Type 0
WhatARowTells = (k : Recorded) (millilitres : ℕ) (time : Moment) → Tells k millilitres time → ((row_tells k).volume ≡ millilitres) × ((row_tells k).time ≡ time)

-- It is taken from the first and the last of the answers that count, and from no other: of an accepted bundle, for a position from 1 to 48.
abbrev pub FirstAndLastTell : Type 0
FirstAndLastTell =
    (b : List ℕ) (n position s1 s2 elapsed v1 v2 : ℕ) (t1 t2 : Moment) (first last : Recorded) (between : List Recorded)
    → check_of b ≡ reads n → 1 ≤ position → position ≤ 48 → answers_of position (records_of b) ≡ first ∷ (between ++ (last ∷ []))
    → Tells first v1 t1 → Tells last v2 t2 → replay_of b position s1 s2 elapsed ≡ error_of_figures v1 v2 s1 s2 elapsed (interval t1 t2)

-- One answer is too few, and so is none.
abbrev pub FewerThanTwo : Type 0
FewerThanTwo =
    (b : List ℕ) (n position s1 s2 elapsed : ℕ) (only : Recorded) → check_of b ≡ reads n → 1 ≤ position → position ≤ 48
    → (answers_of position (records_of b) ≡ []) ⊎ (answers_of position (records_of b) ≡ only ∷ []) → replay_of b position s1 s2 elapsed ≡ refusal 63

-- ---- what is given, of the meter's volumes v1 and v2, the standard's s1 and s2, and the two intervals

-- 64: any of the four volumes over 10^9 ml.
abbrev pub AnyVolumeOver : Type 0
AnyVolumeOver =
    (v1 v2 s1 s2 elapsed meter : ℕ) → (1000000000 < v1) ⊎ ((1000000000 < v2) ⊎ ((1000000000 < s1) ⊎ (1000000000 < s2)))
    → error_of_figures v1 v2 s1 s2 elapsed meter ≡ refusal 64

-- No volume is over.
pub record VolumesFit (v1 v2 s1 s2 : ℕ) : Type 0 where
  pub meter_first : v1 ≤ 1000000000
  pub meter_last : v2 ≤ 1000000000
  pub standard_first : s1 ≤ 1000000000
  pub standard_last : s2 ≤ 1000000000

-- 65: then either interval not above 0 or over 1,800,000 ms.
abbrev pub EitherInterval : Type 0
EitherInterval =
    (v1 v2 s1 s2 elapsed meter : ℕ) → VolumesFit v1 v2 s1 s2
    → (elapsed ≡ 0) ⊎ ((1800000 < elapsed) ⊎ ((meter ≡ 0) ⊎ (1800000 < meter))) → error_of_figures v1 v2 s1 s2 elapsed meter ≡ refusal 65

-- An interval from 1 to 1,800,000 ms is right.
abbrev pub InRange : ℕ → Type 0
InRange milliseconds = (0 < milliseconds) × (milliseconds ≤ 1800000)

-- 61: then the meter's volume falls.
abbrev pub VolumeFalls : Type 0
VolumeFalls =
    (v1 v2 s1 s2 elapsed meter : ℕ) → VolumesFit v1 v2 s1 s2 → InRange elapsed → InRange meter → v2 < v1
    → error_of_figures v1 v2 s1 s2 elapsed meter ≡ refusal 61

-- 62: then the standard's does not rise.
abbrev pub StandardStays : Type 0
StandardStays =
    (v1 v2 s1 s2 elapsed meter : ℕ) → VolumesFit v1 v2 s1 s2 → InRange elapsed → InRange meter → v1 ≤ v2 → s2 ≤ s1
    → error_of_figures v1 v2 s1 s2 elapsed meter ≡ refusal 62

-- And in all other cases an error, the nearest to that of C.1 in tenths of a percent.
abbrev pub OtherwiseAnError : Type 0
OtherwiseAnError =
    (v1 v2 s1 s2 elapsed meter : ℕ) → VolumesFit v1 v2 s1 s2 → InRange elapsed → InRange meter → v1 ≤ v2 → s1 < s2
    → (e : ℤ) × (error_of_figures v1 v2 s1 s2 elapsed meter ≡ reads e)
    × Nearest (pos 1000 *ℤ (pos ((v2 - v1) * elapsed) -ℤ pos ((s2 - s1) * meter))) ((s2 - s1) * meter) e

-- ---- a bundle with three answers at position 7, in which every measured value and time of day is different

-- an entry of digits
abbrev in_digits : ℕ → ℕ → ℕ → Entry
in_digits structure unit count = record { structure = structure; unit = unit; value = Number (record { count = pos count }) }

-- an entry in binary
abbrev in_binary : ℕ → ℕ → ℕ → Entry
in_binary structure unit count = record { structure = structure; unit = unit; value = Binary (record { count = pos count }) }

-- 16 November 2026 at a time of day, a Monday where it is said
abbrev at_time : ℕ → ℕ → ℕ → ℕ → Entry
at_time hour minute second weekday =
    let time : Moment = record { year = 26; month = 11; day = 16; hour = hour; minute = minute; second = second; weekday = weekday } in
    record { structure = 0x06; unit = 0x6D; value = Time time }

-- the answer of meter 12345678 at address 5
abbrev answering : ℕ → ℕ → List Entry → Telegram
answering access status entries =
    data_of 5 (record { number = 12345678; maker = 0x4E89; version = 1; meter_type = 4; access = access; status = status }) entries

-- position, direction, time, and the telegram whose line it is
abbrev row_with : ℕ → ℕ → ℕ → Telegram → Recorded
row_with position direction time telegram =
    record { position = position; direction = direction; time = time; body = pieces (bytes_of 2) (line_of telegram) }

-- 1,234,000 ml at 10:20:30, then 1,240,170 ml at 10:30:33, then, in binary, 1,256,700 ml at 10:40:31; and an answer at position 9 among them
abbrev pub three_answers : List Recorded
three_answers =
    row_with 7 0 1000 (read_of 0xFE)
    ∷ row_with 7 1 1101 (answering 21 1
    (in_digits 0x0C 0x06 11117 ∷ in_digits 0x0C 0x13 1234 ∷ in_digits 0x0A 0x5A 812 ∷ in_digits 0x0A 0x5E 534 ∷ at_time 10 20 30 0 ∷ []))
    ∷ row_with 7 0 5000 (read_of 0x05)
    ∷ row_with 9 0 5002 (read_of 0xFE)
    ∷ row_with 9 1 5103 (answering 37 2
    (in_digits 0x0C 0x05 22229 ∷ in_digits 0x0C 0x12 4321 ∷ in_digits 0x0A 0x59 713 ∷ in_digits 0x0A 0x5D 435 ∷ at_time 10 21 47 0 ∷ []))
    ∷ row_with 7 1 5107 (answering 22 3
    (at_time 10 30 33 1 ∷ in_digits 0x0B 0x11 124017 ∷ in_digits 0x0E 0x04 33331 ∷ in_digits 0x0B 0x5B 614 ∷ in_digits 0x0B 0x5F 336 ∷ []))
    ∷ row_with 7 0 9000 (read_of 0xFE)
    ∷ row_with 7 1 9109 (answering 23 4
    (in_digits 0x0C 0x03 44449 ∷ in_binary 0x02 0x58
    515 ∷ in_binary 0x02 0x5C 237 ∷ at_time 10 40 31 1 ∷ in_binary 0x04 0x12 12567 ∷ []))
    ∷ []

-- The meter rises by 22,700 ml in 1,201,000 ms; against 22,500 ml in 1,199,500 ms that is 0.76 percent. Position 9 has one answer, and 8 none.
abbrev pub ThreeAnswersReplayed : Type 0
ThreeAnswersReplayed =
    (replay_of (bundle_of three_answers) 7 5000 27500 1199500 ≡ reads (pos 8))
    × (replay_of (bundle_of three_answers) 9 5000 27500 1199500 ≡ refusal 63)
    × (replay_of (bundle_of three_answers) 8 5000 27500 1199500 ≡ refusal 63)
    × (replay_of (bundle_of three_answers) 49 5000 27500 1199500 ≡ refusal 34)
