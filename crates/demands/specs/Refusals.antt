-- Demand 1: any input gets a result. The definitions are total and every public function answers by one of them; here is, for each order of
-- refusals, which numbers it can give. What a refusal leaves is in `Unchanged`.
use Rattle.std.specs.Prelude.{ℕ, ◌%◌, true, List, [], ◌∷◌, ◌≡◌, eqb, ℤ, length}
use Rattle.base_lent.specs.Lent.{told}
use Rattle.bench_clock.specs.declared.Clock.{Clock}
use Rattle.bench_clock.specs.Gaps.{gap_of}
use Rattle.bench_clock.specs.Wakes.{wake_of}
use Rattle.mbus_rules.specs.declared.Telegram.{Telegram}
use Rattle.base_rules.specs.Lists.{any}
use Rattle.base_characters.specs.Characters.{chars}
use Rattle.base_rules.specs.Answers.{Answer, reads, refusal, refuse, follow}
use Rattle.mbus_rules.specs.Host.{line_number, host_number}
use Rattle.mbus_rules.specs.Lines.{read_line}
use Rattle.mbus_rules.specs.Writing.{write_line}
use Rattle.bench_indication.specs.Errors.{indication_of}
use Rattle.mbus_search.specs.Searching.{find_in}
use Rattle.mbus_after.specs.After.{find_after}
use Rattle.mbus_length.specs.declared.HowLong.{HowLong}
use Rattle.mbus_length.specs.declared.HowLong.TheVariants.{Known, NotYet, NoLine}
use Rattle.mbus_either.specs.Interfaces.{find_either}
use Rattle.exchange_steps.specs.declared.Slot.{Slot}
use Rattle.exchange_steps.specs.declared.Slot.TheVariants.{Idle}
use Rattle.exchange_steps.specs.Histories.{send_ended, heard, tick, answer}
use Rattle.meter_steps.specs.declared.Meter.{Meter}
use Rattle.meter_steps.specs.Meters.{set_up, heard_at, measured_at}
use Rattle.bundle_check.specs.Bundles.{check_of}
use Rattle.bundle_check.specs.Records.{Recorded}
use Rattle.bundle_check.specs.Handing.{row_at, body_at}
use Rattle.bundle_columns.specs.Record.{columns_from}
use Rattle.bundle_columns.specs.Lookups.{row_kept, body_kept, next_kept}
use Rattle.bundle_columns.specs.Shown.{columns_into, contents_into}
use Rattle.bundle_salvage.specs.Salvaging.{salvage_into}
use Rattle.bundle_adding.specs.Adding.{add_of}
use Rattle.bundle_sweep.specs.Sweeping.{sweep_of}
use Rattle.run_listing.specs.Shown.{listed_in}
use Rattle.run_picture.specs.Shown.{drawn_in}
use Rattle.run_counting.specs.Counting.{counting_of}
use Rattle.run_replay.specs.Errors.{replay_of}
use Rattle.text_words.specs.Refusals.{text_of}
use Rattle.text_filling.specs.Texts.{text}
use Rattle.text_words.specs.Saying.{fitted}
use Rattle.host_meaning.specs.Meanings.{meaning_for}
use Rattle.mbus_records.specs.Telegrams.{telegram_from}
use Rattle.exchange_record.specs.Exchanges.{slot_from}
use Rattle.meter_record.specs.MeterRecords.{meter_from}
use Rattle.host_lines.specs.Calls.{read_for, write_for, request_for}
use Rattle.host_search.specs.Finding.{find_for}
use Rattle.host_either.specs.Finding.{either_for}
use Rattle.host_incoming.specs.Calls.{length_number, after_for}
use Rattle.host_bench.specs.Calls.{error_for}
use Rattle.host_replay.specs.Calls.{replay_for}
use Rattle.host_exchange.specs.Calls as exchanges
use Rattle.host_exchange.specs.Calls.{send_ended_for, tick_for}
use Rattle.host_meter.specs.Calls as meters
use Rattle.host_meter.specs.Calls.{set_up_for, measure_for}
use Rattle.host_bundle.specs.Rows.{row_into, kept_into}
use Rattle.run_verdicts.specs.Answering.{verdicts_in, verdicts_kept}
use Rattle.host_verdicts.specs.Told.{verdicts_into, verdict_into}

-- A refusal, if the answer is one, has one of these numbers.
unfoldable pub By : {A : Type 0} → List ℕ → Answer A → Type 0
By ns (refusal n) = any (eqb n) ns ≡ true
By ns (reads a) = Unit {0}

-- ---- by the forms of answers

-- ---- reading a line

abbrev pub line_numbers : List ℕ
line_numbers = 1 ∷ 2 ∷ 3 ∷ 4 ∷ 5 ∷ 6 ∷ 7 ∷ 8 ∷ 9 ∷ 10 ∷ 11 ∷ 12 ∷ 13 ∷ 14 ∷ 16 ∷ []

-- Reading a line gives 1 to 14 or 16.
abbrev pub ReadingBy : Type 0
ReadingBy = (s : List ℕ) → By line_numbers (read_line s)

-- For C: 17, before 1; the number is 256 plus it.
abbrev pub host_answer : List ℕ → Answer Telegram
host_answer b = refuse 17 (eqb (length b % 2) 1) (read_line (chars b))

abbrev pub CheckingBy : Type 0
CheckingBy = (b : List ℕ) → (host_number b ≡ line_number (host_answer b)) × By (17 ∷ line_numbers) (host_answer b)

-- ---- search and writing

abbrev pub SearchingBy : Type 0
SearchingBy = (s : List ℕ) → By (18 ∷ []) (find_in s)

abbrev pub AfterBy : Type 0
AfterBy = (t : ℕ) (s times : List ℕ) → By (18 ∷ []) (find_after t s times)

-- The length of a line, for C: 0, 1 or 18.
abbrev pub length_answer : HowLong → Answer ℕ
length_answer (Known n) = reads 0
length_answer NotYet = reads 1
length_answer NoLine = refusal 18

abbrev pub LengthBy : Type 0
LengthBy = (w : HowLong) → (length_number w ≡ told (λ (n : ℕ). n) (length_answer w)) × By (18 ∷ []) (length_answer w)

abbrev pub EitherBy : Type 0
EitherBy = (mbus optical : List ℕ) → By (18 ∷ []) (find_either mbus optical)

abbrev pub WritingBy : Type 0
WritingBy = (t : Telegram) (places : ℕ) → By (20 ∷ 21 ∷ []) (write_line t places)

-- ---- the bench: wake-up, gap, error

abbrev pub WakeBy : Type 0
WakeBy = (count : ℕ) (out : List ℕ) → By (52 ∷ 21 ∷ []) (wake_of count out)

abbrev pub GapBy : Type 0
GapBy = (ended begins : ℕ) → By (50 ∷ 51 ∷ []) (gap_of ended begins)

abbrev pub ErrorBy : Type 0
ErrorBy = (m1 m2 s1 s2 : ℕ) → By (60 ∷ 61 ∷ 62 ∷ []) (indication_of m1 m2 s1 s2)

-- ---- the exchange: each step

-- The end of a send: 42 where there is none, and of what there is else 40, 41 and 43 too.
module _ (telegram : Telegram) (t : Clock) where
  abbrev pub BeginBy : Type 0
  BeginBy = By (42 ∷ []) (answer Idle (send_ended telegram t))

  abbrev pub SendBy : Type 0
  SendBy = (b : Slot) → By (40 ∷ 41 ∷ 42 ∷ 43 ∷ []) (answer b (send_ended telegram t))

-- Lines and ticks: 40 and 41, and of none 41.
abbrev pub LineBy : Type 0
LineBy = (b : Slot) (line : List ℕ) (t : Clock) → By (40 ∷ 41 ∷ []) (answer b (heard line t))

abbrev pub TickBy : Type 0
TickBy = (b : Slot) (t : Clock) → By (40 ∷ 41 ∷ []) (answer b (tick t))

-- ---- the simulated meter: set-up, and each step

abbrev pub SetUpBy : Type 0
SetUpBy = (own : ℕ) (template : Telegram) → By (72 ∷ []) (set_up own template)

abbrev pub HeardBy : Type 0
HeardBy = (m : Meter) (line : List ℕ) (t : Clock) → By (70 ∷ []) (heard_at m line t)

abbrev pub MeasureBy : Type 0
MeasureBy = (m : Meter) (v e : ℕ) (t : Clock) → By (70 ∷ 71 ∷ []) (measured_at m v e t)

-- ---- the run bundle

abbrev pub bundle_numbers : List ℕ
bundle_numbers = 30 ∷ 31 ∷ 32 ∷ 33 ∷ 34 ∷ 35 ∷ 36 ∷ 37 ∷ []

abbrev pub BundleBy : Type 0
BundleBy = (b : List ℕ) → By bundle_numbers (check_of b)

-- 39: no such row
abbrev pub RowBy : Type 0
RowBy = (b : List ℕ) (i : ℕ) → By (39 ∷ bundle_numbers) (row_at b i)

abbrev pub BodyPlaceBy : Type 0
BodyPlaceBy = (b : List ℕ) (i : ℕ) → By (39 ∷ bundle_numbers) (body_at b i)

-- 2026-11: 30 to 33 as before, and 38
abbrev pub SalvageBy : Type 0
SalvageBy = (b out : List ℕ) → By (30 ∷ 31 ∷ 32 ∷ 33 ∷ 38 ∷ []) (salvage_into b out)

-- 2026-12: 30 to 37, then 34
abbrev pub SweepBy : Type 0
SweepBy = (buffer : List ℕ) (filled position : ℕ) → By bundle_numbers (sweep_of buffer filled position)

-- 2026-10: the lists of a bundle; and of a record of them the contents, a row, its body and the next row of a position
abbrev pub ListsBy : Type 0
ListsBy = (b : List ℕ) → By (101 ∷ []) (columns_from b)

abbrev pub ListsIntoBy : Type 0
ListsIntoBy = (b out : List ℕ) → By (21 ∷ bundle_numbers) (columns_into b out)

abbrev pub ContentsIntoBy : Type 0
ContentsIntoBy = (b out : List ℕ) → By (101 ∷ 21 ∷ []) (contents_into b out)

abbrev pub KeptRowBy : Type 0
KeptRowBy = (b : List ℕ) (i : ℕ) → By (101 ∷ 39 ∷ []) (row_kept b i)

abbrev pub KeptBodyBy : Type 0
KeptBodyBy = (b : List ℕ) (i : ℕ) → By (101 ∷ 39 ∷ []) (body_kept b i)

abbrev pub NextBy : Type 0
NextBy = (b : List ℕ) (position from : ℕ) → By (101 ∷ 39 ∷ []) (next_kept b position from)

-- 38: no room
abbrev pub AddingBy : Type 0
AddingBy = (buffer : List ℕ) (filled : ℕ) (k : Recorded) → By (38 ∷ bundle_numbers) (add_of buffer filled k)

-- The rows that count: 30 to 37, and 34 for the position.
abbrev pub CountingBy : Type 0
CountingBy = (b : List ℕ) (position : ℕ) → By bundle_numbers (counting_of b position)

-- The replay: 63 to 65, 61 and 62 besides.
abbrev pub replay_numbers : List ℕ
replay_numbers = 63 ∷ 64 ∷ 65 ∷ 61 ∷ 62 ∷ bundle_numbers

abbrev pub ReplayBy : Type 0
ReplayBy = (b : List ℕ) (position s1 s2 elapsed : ℕ) → By replay_numbers (replay_of b position s1 s2 elapsed)

-- Listing answers for every bundle; a refused one has its number in the text.
abbrev pub ListingBy : Type 0
ListingBy = (text out : List ℕ) → By (21 ∷ []) (listed_in text out)

-- ---- the words for a number, and records

abbrev pub WordsBy : Type 0
WordsBy = (n : ℕ) (out : List ℕ) → By (100 ∷ 21 ∷ []) (follow (text_of n) (fitted out))

abbrev pub TelegramRecordBy : Type 0
TelegramRecordBy = (b : List ℕ) → By (101 ∷ []) (telegram_from b)

abbrev pub ExchangeRecordBy : Type 0
ExchangeRecordBy = (b : List ℕ) → By (101 ∷ []) (slot_from b)

abbrev pub MeterRecordBy : Type 0
MeterRecordBy = (b : List ℕ) → By (101 ∷ []) (meter_from b)

-- ---- the functions for C, each in the order of its own record or places and of what it calls

abbrev pub MeaningForBy : Type 0
MeaningForBy = (u : ℕ) (out : List ℕ) → By (11 ∷ 21 ∷ []) (meaning_for u out)

module _ (b out : List ℕ) where
  abbrev pub ReadForBy : Type 0
  ReadForBy = By (21 ∷ line_numbers) (read_for b out)

  abbrev pub WriteForBy : Type 0
  WriteForBy = By (101 ∷ 20 ∷ 21 ∷ []) (write_for b out)

  abbrev pub FindForBy : Type 0
  FindForBy = By (18 ∷ 21 ∷ []) (find_for b out)

  abbrev pub AfterForBy : Type 0
  AfterForBy = (t : ℕ) (times : List ℕ) → By (18 ∷ 21 ∷ []) (after_for t b times out)

  abbrev pub KeptIntoBy : Type 0
  KeptIntoBy = (i : ℕ) → By (21 ∷ 101 ∷ 39 ∷ []) (kept_into b i out)

  abbrev pub EitherForBy : Type 0
  EitherForBy = (optical : List ℕ) → By (18 ∷ 21 ∷ []) (either_for b optical out)

  abbrev pub RowIntoBy : Type 0
  RowIntoBy = (i : ℕ) → By (21 ∷ 39 ∷ bundle_numbers) (row_into b i out)

abbrev pub RequestForBy : Type 0
RequestForBy = (kind address method : ℕ) (out : List ℕ) → By (20 ∷ 21 ∷ []) (request_for kind address method out)

abbrev pub ErrorForBy : Type 0
ErrorForBy = (m1 m2 s1 s2 : ℕ) (out : List ℤ) → By (21 ∷ 60 ∷ 61 ∷ 62 ∷ []) (error_for m1 m2 s1 s2 out)

abbrev pub ReplayForBy : Type 0
ReplayForBy = (b : List ℕ) (position s1 s2 elapsed : ℕ) (out : List ℤ) → By (21 ∷ replay_numbers) (replay_for b position s1 s2 elapsed out)

-- the steps of an exchange that is kept in a record, or of none
module _ (b : List ℕ) (t : ℕ) where
  abbrev pub SendEndedForBy : Type 0
  SendEndedForBy = (kind address method : ℕ) → By (101 ∷ 40 ∷ 41 ∷ 42 ∷ 43 ∷ []) (send_ended_for b kind address method t)

  abbrev pub TickForBy : Type 0
  TickForBy = By (101 ∷ 40 ∷ 41 ∷ []) (tick_for b t)

  abbrev pub HeardForBy : Type 0
  HeardForBy = (line reply : List ℕ) → By (101 ∷ 21 ∷ 40 ∷ 41 ∷ []) (exchanges.heard_for b line t reply)

-- and of a meter
abbrev pub SetUpForBy : Type 0
SetUpForBy = (out : List ℕ) (own : ℕ) (template : List ℕ) → By (101 ∷ 21 ∷ 72 ∷ []) (set_up_for out own template)

abbrev pub MeterHeardForBy : Type 0
MeterHeardForBy = (b line : List ℕ) (t : Clock) (out : List ℕ) → By (101 ∷ 21 ∷ 70 ∷ []) (meters.line_heard_for b line t out)

abbrev pub MeasureForBy : Type 0
MeasureForBy = (b : List ℕ) (v e : ℕ) (t : Clock) → By (101 ∷ 70 ∷ 71 ∷ []) (measure_for b v e t)

-- the picture of a bundle
abbrev pub DrawingBy : Type 0
DrawingBy = (b out : List ℕ) → By (21 ∷ bundle_numbers) (drawn_in b out)

-- the verdicts of rows: of a bundle, and of columns with the bundle that their bodies lie in
abbrev pub VerdictsBy : Type 0
VerdictsBy = (b : List ℕ) → By bundle_numbers (verdicts_in b)

abbrev pub KeptVerdictsBy : Type 0
KeptVerdictsBy = (lists b : List ℕ) → By (101 ∷ 34 ∷ 35 ∷ []) (verdicts_kept lists b)

-- and for C: all of them, and one
abbrev pub VerdictsIntoBy : Type 0
VerdictsIntoBy = (b out : List ℕ) → By (21 ∷ bundle_numbers) (verdicts_into (verdicts_in b) out)

abbrev pub KeptVerdictsIntoBy : Type 0
KeptVerdictsIntoBy = (lists b out : List ℕ) → By (101 ∷ 34 ∷ 35 ∷ 21 ∷ []) (verdicts_into (verdicts_kept lists b) out)

abbrev pub VerdictIntoBy : Type 0
VerdictIntoBy = (b : List ℕ) (i : ℕ) (out : List ℕ) → By (21 ∷ 39 ∷ bundle_numbers) (verdict_into (verdicts_in b) i out)
