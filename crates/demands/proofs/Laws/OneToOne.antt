-- Proofs of the statements of specs/OneToOne.
use Prim.Native.Nat.{ℕ, ◌-◌}
use mathlib.Core.List.{List}
use mathlib.Core.Path.{◌≡◌, refl, sym, ap, ◌∙◌}
use lib.ListN.{length, take, replicate}
use lib.Seq.{take-append_seam}
use Rattle.base_rules.proofs.Laws.AnswerLaws as answers
use Rattle.mbus_rules.specs.declared.Entry.{Entry}
use Rattle.base_rules.proofs.Laws.AnswerLaws.{shown_same}
use Rattle.base_rules.specs.Answers.{Answer, reads, refusal, within}
use Rattle.mbus_rules.specs.Telegrams.{blank_entry}
use Rattle.mbus_entries.specs.declared.Entries.{Entries}
use Rattle.mbus_entries.specs.Walking.{listed}
use Rattle.meter_steps.proofs.Laws.Shown as deeds
use Rattle.run_replay.specs.declared.Replayed.{Replayed}
use Rattle.run_replay.specs.Shown.{replay_with}
use lib.IntN.{ℤ}
use Rattle.run_counting.specs.declared.Counted.{Counted}
use Rattle.run_counting.specs.Shown.{numbered}
use Rattle.host_verdicts.specs.Told.{answer_shown}
use Rattle.host_verdicts.proofs.Laws.Told as verdicts
use Rattle.demands.specs.OneToOne.{ReadingApart, EntriesApart, WrittenApart, FoundApart, AfterApart, EitherApart, GapApart, WakeApart, ErrorApart}
use Rattle.demands.specs.OneToOne.{ExchangeApart, ExchangeRecordApart, SetUpApart, MeterApart, SumApart, CheckedApart, RowApart, BodyApart, NextApart}
use Rattle.demands.specs.OneToOne.{SalvageApart, AddedApart, SweptApart, ListedApart, DrawnApart, CountingApart, ReplayApart, VerdictsApart}
use Rattle.demands.specs.OneToOne.{VerdictFoundApart}

pub reading_apart : ReadingApart
reading_apart = shown_same

-- reading all entries
abbrev kept : Entries → List Entry
kept x = take x.count x.entries

kept_back : (a : Answer (List Entry)) → within kept (within listed a) ≡ a
kept_back (refusal n) = refl
kept_back (reads done) = ap reads (take-append_seam done (replicate (7 - length done) blank_entry))

pub entries_apart : EntriesApart
entries_apart a b e = sym (kept_back a) ∙ ap (within kept) (shown_same (within listed a) (within listed b) e) ∙ kept_back b

pub written_apart : WrittenApart
written_apart = shown_same

pub found_apart : FoundApart
found_apart = shown_same

pub after_apart : AfterApart
after_apart = shown_same

pub either_apart : EitherApart
either_apart = shown_same

pub gap_apart : GapApart
gap_apart = answers.shown_same

pub wake_apart : WakeApart
wake_apart = answers.shown_same

pub error_apart : ErrorApart
error_apart = answers.shown_same

pub exchange_apart : ExchangeApart
exchange_apart = shown_same

pub exchange_record_apart : ExchangeRecordApart
exchange_record_apart = shown_same

pub set_up_apart : SetUpApart
set_up_apart = shown_same

pub meter_apart : MeterApart
meter_apart = deeds.shown_step_same

pub sum_apart : SumApart
sum_apart = shown_same

pub checked_apart : CheckedApart
checked_apart = shown_same

pub row_apart : RowApart
row_apart = shown_same

pub body_apart : BodyApart
body_apart = shown_same

pub next_apart : NextApart
next_apart = shown_same

pub salvage_apart : SalvageApart
salvage_apart = shown_same

pub added_apart : AddedApart
added_apart = shown_same

pub swept_apart : SweptApart
swept_apart = shown_same

pub listed_apart : ListedApart
listed_apart = shown_same

pub drawn_apart : DrawnApart
drawn_apart = answers.shown_same

-- the replay: the rows that count, and the error, whatever their numbers are
abbrev numbers_in : Counted → List ℕ
numbers_in x = take x.count x.rows

numbers_back : (a : Answer (List ℕ)) → within numbers_in (within numbered a) ≡ a
numbers_back (refusal n) = refl
numbers_back (reads numbers) = ap reads (take-append_seam numbers (replicate (512 - length numbers) 0))

pub counting_apart : CountingApart
counting_apart a b e = sym (numbers_back a) ∙ ap (within numbers_in) (shown_same (within numbered a) (within numbered b) e) ∙ numbers_back b

pub replay_apart : ReplayApart
replay_apart numbers a b e = same a b (answers.shown_same (within (replay_with numbers) a) (within (replay_with numbers) b) e)
  where
    tenths : Answer Replayed → Answer ℤ
    tenths (refusal n) = refusal n
    tenths (reads r) = reads r.tenths

    same : (a b : Answer ℤ) → within (replay_with numbers) a ≡ within (replay_with numbers) b → a ≡ b
    same (refusal m) (refusal n) e = ap tenths e
    same (refusal m) (reads y) e = ap tenths e
    same (reads x) (refusal n) e = ap tenths e
    same (reads x) (reads y) e = ap tenths e

pub verdicts_apart : VerdictsApart
verdicts_apart a b e = sym (verdicts.answer_back a) ∙ ap answer_shown e ∙ verdicts.answer_back b

pub verdict_found_apart : VerdictFoundApart
verdict_found_apart = shown_same
