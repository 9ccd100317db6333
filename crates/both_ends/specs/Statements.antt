-- 02, 2026-14: what holds of both ends when entering or leaving has ended, well or badly.
use Rattle.std.specs.Prelude.{ℕ, ◌+◌, ◌≤◌, ◌<◌, true, List, ◌∷◌, ◌++◌, ◌⊎◌, ◌≡◌}
use Rattle.bench_clock.specs.declared.Clock.{Clock}
use Rattle.bench_clock.specs.Times.{return_time}
use Rattle.mbus_rules.specs.declared.Request.{Request}
use Rattle.mbus_rules.specs.declared.Request.TheVariants.{Read, Enter, Leave}
use Rattle.base_characters.specs.Flips.{Place}
use Rattle.mbus_rules.specs.Lines.{is_method}
use Rattle.exchange_steps.specs.declared.Cause.{Cause}
use Rattle.exchange_steps.specs.declared.State.TheVariants.{Well, Failed}
use Rattle.meter_steps.specs.declared.Meter.{Meter}
use Rattle.meter_steps.specs.declared.Mode.{Mode}
use Rattle.meter_steps.specs.declared.Mode.TheVariants.{Use, Verifying}
use Rattle.meter_steps.specs.Meters.{mode_at, with_mode, returned, instructed}
use Rattle.both_ends.specs.Line.{Ends, Between, Happening, reaches_meter, happened, opening, alone}
use Rattle.both_ends.specs.Hypotheses.{Rising, Fair}

-- What was asked is done: the meter is in verification with that method, by an instruction that is not before the first send; or it is in use. (A read
-- asks for neither.)
abbrev pub Done : Clock → Request → Mode → Type 0
Done first (Read a) mode = ⊥
Done first (Enter a s) mode = (since : Clock) × (mode ≡ Verifying s since) × (first.0 ≤ since.0)
Done first (Leave a) mode = mode ≡ Use

-- Totals are cleared at most once by entering, and never by leaving.
abbrev pub clears_at_most : Request → ℕ
clears_at_most (Read a) = 0
clears_at_most (Enter a s) = 1
clears_at_most (Leave a) = 0

-- The meter that obeys a request at t.
abbrev pub obeying : Clock → Request → Meter → Meter
obeying t request m = record { last = t; core = (instructed t (returned t m.core) request).core }

-- It has done what was asked.
abbrev pub HasDone : Request → Clock → Clock → Between → Type 0
HasDone request first end w = Done first request (returned end w.meter.core).mode

-- The time of its last step aside, it is as it would be without the exchange; a return that is due by the end is made.
abbrev pub AsAlone : Ends → Meter → List Happening → Clock → Between → Type 0
AsAlone ends m hs end w = returned end w.meter.core ≡ returned end (alone ends m hs).core

-- It has the totals, address and template of a meter that obeyed the request once, when a line of it arrived, and that else only measured; and if
-- totals were cleared, that meter came from use.
pub record AsObeyedOnce (ends : Ends) (m : Meter) (hs : List Happening) (request : Request) (w : Between) : Type 0 where
  pub before : List Happening
  pub at : Clock
  pub flipped : List Place
  pub behind : List Happening
  pub history : hs ≡ before ++ (reaches_meter at flipped ∷ behind)
  pub as_obeyed : with_mode w.meter.core Use ≡ with_mode (alone ends (obeying at request (alone ends m before)) behind).core Use
  pub cleared_from_use : 1 ≤ w.clearings → mode_at at (alone ends m before).core.mode ≡ Use

-- If it ends well, the meter has done what was asked.
abbrev pub IfWell : Request → Clock → Clock → Between → Type 0
IfWell request first end w = w.bench.state ≡ Well → HasDone request first end w

-- If it ends badly, the meter either has done so or is as it would be without the exchange.
abbrev pub IfBadly : Ends → Meter → List Happening → Request → Clock → Clock → Between → Type 0
IfBadly ends m hs request first end w = (cause : Cause) → w.bench.state ≡ Failed cause → HasDone request first end w ⊎ AsAlone ends m hs end w

-- In both cases its totals were cleared at most once,
abbrev pub ClearedOnce : Request → Between → Type 0
ClearedOnce request w = w.clearings ≤ clears_at_most request

-- and only if it came from use.
pub record BothTold (ends : Ends) (m : Meter) (hs : List Happening) (request : Request) (first end : Clock) (w : Between) : Type 0 where
  pub well : IfWell request first end w
  pub badly : IfBadly ends m hs request first end w
  pub once : ClearedOnce request w
  pub totals : ((w.clearings ≡ 0) × AsAlone ends m hs end w) ⊎ AsObeyedOnce ends m hs request w

-- ---- the statements, of any two ends

-- Of an exchange begun with the request at `first`, and whatever then happens up to `end`: under 4,320,000 between them, nothing on its way at the
-- beginning, all times rising together, the meter's last step among them, and up to three bits flipped in a line.
abbrev pub ToldTo : Ends → Request → Type 0
ToldTo ends request =
    (first end : Clock) → end.0 < first.0 + return_time
    → (m : Meter) → m.last.0 ≤ first.0
    → (hs : List Happening) → Rising first.0 end.0 hs → Fair ends (opening request first m) hs
    → BothTold ends m hs request first end (happened ends (opening request first m) hs)

-- Entering, at every address and with each of the three methods,
abbrev pub Entering : Ends → Type 0
Entering ends = (a s : ℕ) → a < 256 → is_method s ≡ true → ToldTo ends (Enter a s)

-- and leaving.
abbrev pub Leaving : Ends → Type 0
Leaving ends = (a : ℕ) → a < 256 → ToldTo ends (Leave a)
