-- What fits the record of an exchange: the address that is asked, and the times of steps.
use Rattle.std.specs.Prelude.{◌^◌, ◌<◌, List, [], ◌∷◌}
use Rattle.mbus_rules.specs.declared.Request.{Request}
use Rattle.mbus_rules.specs.declared.Request.TheVariants.{Read, Enter, Leave}
use Rattle.exchange_steps.specs.declared.Slot.{Slot}
use Rattle.exchange_steps.specs.declared.Slot.TheVariants.{Idle, Busy}
use Rattle.exchange_steps.specs.Histories.{Step, step_time}

-- The address that is read fits its type.
abbrev pub Asked : Request → Type 0
Asked (Read a) = a < 256
Asked (Enter a m) = Unit {0}
Asked (Leave a) = Unit {0}

-- So does that of an exchange, and of none there is nothing to ask.
abbrev pub AskedBy : Slot → Type 0
AskedBy Idle = Unit {0}
AskedBy (Busy x) = Asked x.request

-- The times of the steps fit their type.
unfoldable pub TimesFit : List Step → Type 0
TimesFit [] = Unit {0}
TimesFit (s ∷ h) = ((step_time s).0 < 256 ^ 8) × TimesFit h
