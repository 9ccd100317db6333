-- 02, 2026-14: when the bench says that a meter has entered or left. An exchange and one simulated meter on a line that may lose a line or flip up to
-- three bits in it, but neither repeats nor reorders, with nothing on its way at the beginning, all times rising together, and under 4,320,000 bit
-- times between first send and end.
use Rattle.std.specs.Prelude.{ℕ, ◌+◌, ◌≤◌, ◌<◌, true, [], ◌∷◌, ◌≡◌}
use Rattle.bench_clock.specs.declared.Clock.{Clock}
use Rattle.bench_clock.specs.Times.{reply_time}
use Rattle.mbus_rules.specs.declared.Request.{Request}
use Rattle.mbus_rules.specs.declared.Request.TheVariants.{Enter, Leave}
use Rattle.mbus_rules.specs.Lines.{is_method}
use Rattle.exchange_steps.specs.declared.State.TheVariants.{Well}
use Rattle.meter_steps.specs.declared.Meter.{Meter}
use Rattle.meter_steps.specs.Meters.{addressed}
use Rattle.both_ends.specs.Line.{own_ends, reaches_meter, reaches_bench, happened, opening}
use Rattle.both_ends.specs.Statements.{Entering, Leaving}

-- If entering ends well, the meter is in verification with that method. If it ends badly, the meter either has entered or is, the time of its last
-- step aside, as it would be without the exchange, with only its own measuring and 30 minute return at work. In both cases its totals were cleared at
-- most once, and only if it came from use. (`ToldTo` has the hypotheses, one a line, and `BothTold` what is said. That the meter is asked by its own
-- address or FE is not among them: of a meter that is not, it holds too.)
abbrev pub BothEndsEntering : Type 0
BothEndsEntering = Entering own_ends

-- If leaving ends well, the meter is in use. If it ends badly, the meter either has left or is as it would be without the exchange. In both cases its
-- totals were never cleared.
abbrev pub BothEndsLeaving : Type 0
BothEndsLeaving = Leaving own_ends

-- What nothing disturbs ends well: the first send reaches a meter asked by its own address or FE, and the answer reaches the bench within 450.
abbrev pub Undisturbed : Request → Type 0
Undisturbed request =
    (m : Meter) → addressed m.core.address request ≡ true
    → (first t u : Clock) → m.last.0 ≤ t.0 → first.0 ≤ u.0 → u.0 ≤ first.0 + reply_time
    → (happened own_ends (opening request first m) (reaches_meter t [] ∷ reaches_bench u [] ∷ [])).bench.state ≡ Well

abbrev pub EnteringUndisturbed : Type 0
EnteringUndisturbed = (a s : ℕ) → a < 256 → is_method s ≡ true → Undisturbed (Enter a s)

abbrev pub LeavingUndisturbed : Type 0
LeavingUndisturbed = (a : ℕ) → a < 256 → Undisturbed (Leave a)
