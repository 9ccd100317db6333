-- What an enter changes holds of the meter's steps.
use Prim.Native.Nat.{ℕ}
use mathlib.Core.Bool.{true, or-true}
use mathlib.Core.List.{List}
use mathlib.Core.Logic.{◌⊎◌, inl, inr}
use mathlib.Core.Path.{◌≡◌, refl, ap, ◌∙◌}
use borrow.Author.Tests.{eq-eqb, le-ltb}
use lib.Count.{ones_in}
use lib.Dec.{eqb}
use Rattle.bench_clock.specs.declared.Clock.{Clock}
use Rattle.bench_clock.proofs.Laws.Times.{le_due, lt_due}
use Rattle.mbus_rules.specs.declared.Request.TheVariants.{Enter}
use Rattle.base_rules.specs.Answers.{Answer}
use Rattle.meter_steps.specs.declared.Meter.{Meter}
use Rattle.meter_steps.specs.declared.Mode.{Mode}
use Rattle.meter_steps.specs.declared.Mode.TheVariants.{Use, Verifying}
use Rattle.meter_steps.specs.Meters.{Deed, mode_at, cleared_from, addressed, shown_meter_step}
use Rattle.meter_steps.specs.Histories.{hear, after_event, run_meter}
use Rattle.meter_template.specs.Templates.{total_in}
use Rattle.base_rules.specs.Lists.{any, total}
use Rattle.base_characters.specs.Characters.{odd, carrier}
use Rattle.mbus_rules.specs.Entries.{may_fall}
use Rattle.mbus_rules.specs.Lines.{read_line, read_body}
use Rattle.mbus_rules.specs.Quantities.{quantity_of, width_of, paired}
use Rattle.mbus_rules.specs.Writing.{line_of, unwritable, repeats}
use Rattle.meter_steps.proofs.Laws.HistoryLaws.{obeyed}
use Rattle.demands.specs.Entered.{Enters, verifying_with, EnterFromUse, EnterAfterReturn, EnterInVerification, MeterRun}

here : (a s own : ℕ) → (a ≡ 0xFE) ⊎ (a ≡ own) → addressed own (Enter a s) ≡ true
here a s own (inl e) = rw (eq-eqb a 0xFE e)
here a s own (inr e) = rw (eq-eqb a own e) (or-true (eqb a 0xFE))

-- from the mode in which the return leaves it
module _ (m : Meter) (line : List ℕ) (t : Clock) (s : ℕ) (enters : Enters m line t s) where
  entered_from : (mode : Mode) → mode_at t m.core.mode ≡ mode → after_event m (hear line t) ≡ verifying_with (cleared_from mode m.core.verified) t s m
  entered_from mode e =
      let (on, (a, asks, own)) = enters in
      let step = obeyed m line t (Enter a s) (le-ltb t.0 m.last.0 on) asks (here a s m.core.address own) in
      ap (λ (x : Answer Deed). (shown_meter_step m t x).meter) step ∙ ap (λ (x : Mode). verifying_with (cleared_from x m.core.verified) t s m) e

pub enter_from_use : EnterFromUse
enter_from_use m line t s enters e = entered_from m line t s enters Use (ap (mode_at t) e)

pub enter_after_return : EnterAfterReturn
enter_after_return m line t s enters method since e due =
    entered_from m line t s enters Use (rw (e, le_due since.0 t.0 due))

pub enter_in_verification : EnterInVerification
enter_in_verification m line t s enters method since e early =
    entered_from m line t s enters (Verifying method since) (rw (e, lt_due since.0 t.0 early))

pub meter_run : MeterRun
unfolding run_meter read_line read_body any total odd carrier ones_in line_of unwritable repeats quantity_of width_of paired may_fall total_in
meter_run = (refl, refl, refl)
