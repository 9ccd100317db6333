-- 01, "The form to use in each place": where a program's answer is an enum, one definition gives its case for each answer of the rules. No two
-- answers are shown alike.
use Rattle.std.specs.Prelude.{ℕ, ℤ, List, ◌≡◌}
use Rattle.bench_clock.specs.declared.Clock.{Clock}
use Rattle.base_rules.specs.Answers.{Answer, within}
use Rattle.base_rules.specs.Shown as answers
use Rattle.mbus_rules.specs.declared.Entry.{Entry}
use Rattle.mbus_rules.specs.declared.Telegram.{Telegram}
use Rattle.mbus_entries.specs.Walking.{listed}
use Rattle.mbus_search.specs.declared.Spot.{Spot}
use Rattle.mbus_after.specs.declared.TimedSpot.{TimedSpot}
use Rattle.mbus_either.specs.declared.LiveLine.{LiveLine}
use Rattle.exchange_steps.specs.declared.Exchange.{Exchange}
use Rattle.exchange_steps.specs.declared.Slot.{Slot}
use Rattle.meter_template.specs.declared.Pair.{Pair}
use Rattle.meter_steps.specs.declared.Meter.{Meter}
use Rattle.meter_steps.specs.Meters as meters
use Rattle.bundle_rows.specs.declared.Row.{Row}
use Rattle.bundle_check.specs.declared.rows.BodyPlace.{BodyPlace}
use Rattle.bundle_salvage.specs.declared.Salvaged.{Salvaged}
use Rattle.run_counting.specs.Shown.{numbered}
use Rattle.run_replay.specs.Shown.{replay_with}
use Rattle.run_verdicts.specs.Shown as verdicts
use Rattle.run_verdicts.specs.declared.Verdict.{Verdict}

-- Two answers that are shown alike are the same.
abbrev pub Apart : {A B : Type 0} → (Answer A → B) → Type 0
Apart {A} show = (a b : Answer A) → show a ≡ show b → a ≡ b

-- reading a line
abbrev pub ReadingApart : Type 0
ReadingApart = Apart (answers.shown {A = Telegram})

abbrev pub EntriesApart : Type 0
EntriesApart = Apart (λ (a : Answer (List Entry)). answers.shown (within listed a))

-- writing a line
abbrev pub WrittenApart : Type 0
WrittenApart = Apart (answers.shown {A = ℕ})

-- search in one capture, after a time and in two, gap, wake-up, error
abbrev pub FoundApart : Type 0
FoundApart = Apart (answers.shown {A = Spot})

abbrev pub AfterApart : Type 0
AfterApart = Apart (answers.shown {A = TimedSpot})

abbrev pub EitherApart : Type 0
EitherApart = Apart (answers.shown {A = LiveLine})

abbrev pub GapApart : Type 0
GapApart = Apart (answers.shown {A = Unit {0}})

abbrev pub WakeApart : Type 0
WakeApart = Apart (answers.shown {A = ℕ})

abbrev pub ErrorApart : Type 0
ErrorApart = Apart (answers.shown {A = ℤ})

-- the exchange, and the simulated meter
abbrev pub ExchangeApart : Type 0
ExchangeApart = Apart (answers.shown {A = Exchange})

abbrev pub ExchangeRecordApart : Type 0
ExchangeRecordApart = Apart (answers.shown {A = Slot})

abbrev pub SetUpApart : Type 0
SetUpApart = Apart (answers.shown {A = Meter})

abbrev pub MeterApart : Type 0
MeterApart = (m : Meter) (t : Clock) → Apart (meters.shown_meter_step m t)

abbrev pub SumApart : Type 0
SumApart = Apart (answers.shown {A = Pair})

-- the run bundle
abbrev pub CheckedApart : Type 0
CheckedApart = Apart (answers.shown {A = ℕ})

abbrev pub RowApart : Type 0
RowApart = Apart (answers.shown {A = Row})

abbrev pub BodyApart : Type 0
BodyApart = Apart (answers.shown {A = BodyPlace})

abbrev pub NextApart : Type 0
NextApart = Apart (answers.shown {A = ℕ})

abbrev pub SalvageApart : Type 0
SalvageApart = Apart (answers.shown {A = Salvaged})

abbrev pub AddedApart : Type 0
AddedApart = Apart (answers.shown {A = ℕ})

abbrev pub SweptApart : Type 0
SweptApart = Apart (answers.shown {A = ℕ})

abbrev pub ListedApart : Type 0
ListedApart = Apart (answers.shown {A = ℕ})

-- drawing
abbrev pub DrawnApart : Type 0
DrawnApart = Apart (answers.shown {A = ℕ})

abbrev pub CountingApart : Type 0
CountingApart = Apart (λ (a : Answer (List ℕ)). answers.shown (within numbered a))

abbrev pub ReplayApart : Type 0
ReplayApart = (numbers : List ℕ) → Apart (λ a. answers.shown (within (replay_with numbers) a))

-- the verdicts in their places, and one found
abbrev pub VerdictsApart : Type 0
VerdictsApart = Apart (λ (a : Answer (List Verdict)). answers.shown (within verdicts.listed a))

abbrev pub VerdictFoundApart : Type 0
VerdictFoundApart = Apart (answers.shown {A = Verdict})
