-- Proofs of the statements of specs/Meter.
use Prim.Native.Nat.{ℕ}
use mathlib.Core.Path.{◌≡◌, refl}
use Rattle.bench_clock.specs.declared.Clock.{Clock}
use Rattle.base_rules.specs.Answers.{reads}
use Rattle.meter_steps.specs.declared.Meter.{Meter}
use Rattle.meter_steps.specs.Meters.{Deed}
use Rattle.meter_steps.specs.Histories.{measure, step_of}
use Rattle.meter_steps.specs.Histories.{is_enter, is_leave}
use Rattle.meter_steps.proofs.Laws.HistoryLaws
use Rattle.meter_steps.proofs.Laws.Written.{answers_proper}
use Rattle.demands.specs.Meter.{EnterAnswered, LeaveAnswered, ReadAnswered, OthersSilent, MeterAnswers, EnterVerifies, LeaveUses, ReadChangesAccess}
use Rattle.demands.specs.Meter.{MeasuredInUse, MeasuredInVerification, RefusedChangesNothing, ClearedByEnter, TotalsNeverFall, BetweenEnters}

pub enter_answered : EnterAnswered
enter_answered m line t = HistoryLaws.acknowledged is_enter m line t (λ a. refl)

pub leave_answered : LeaveAnswered
leave_answered m line t = HistoryLaws.acknowledged is_leave m line t (λ a. refl)

pub read_answered : ReadAnswered
read_answered = HistoryLaws.read_answered

pub others_silent : OthersSilent
others_silent = HistoryLaws.others_silent

pub meter_answers : MeterAnswers
meter_answers = answers_proper

pub enter_verifies : EnterVerifies
enter_verifies = HistoryLaws.enter_verifies

pub leave_uses : LeaveUses
leave_uses = HistoryLaws.leave_uses

pub read_changes_access : ReadChangesAccess
read_changes_access = HistoryLaws.read_raises

module _ (m : Meter) (v e : ℕ) (t : Clock) (d : Deed) (taken : step_of m (measure v e t) ≡ reads d) where
  pub measured_in_use : MeasuredInUse m v e t d taken
  measured_in_use = HistoryLaws.measured_in_use m v e t d taken

  pub measured_in_verification : MeasuredInVerification m v e t d taken
  measured_in_verification = HistoryLaws.measured_in_verification m v e t d taken

pub refused_changes_nothing : RefusedChangesNothing
refused_changes_nothing = HistoryLaws.refused_stays

pub cleared_by_enter : ClearedByEnter
cleared_by_enter = HistoryLaws.zero_by_enter

pub totals_never_fall : TotalsNeverFall
totals_never_fall = HistoryLaws.never_falls

pub between_enters : BetweenEnters
between_enters = HistoryLaws.between_enters
