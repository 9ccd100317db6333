-- Proofs of the statements of specs/BothEnds.
use mathlib.Core.Path.{refl}
use Rattle.mbus_rules.specs.declared.Request.TheVariants.{Enter, Leave}
use Rattle.both_ends.proofs.Laws.Arrivals.{enter_readable, leave_readable}
use Rattle.both_ends.proofs.Laws.Ends as laws
use Rattle.demands.specs.BothEnds.{BothEndsEntering, BothEndsLeaving, EnteringUndisturbed, LeavingUndisturbed}

pub both_ends_entering : BothEndsEntering
both_ends_entering = laws.entering

pub both_ends_leaving : BothEndsLeaving
both_ends_leaving = laws.leaving

pub entering_undisturbed : EnteringUndisturbed
entering_undisturbed a s h method = laws.undisturbed (Enter a s) refl (enter_readable a s h method)

pub leaving_undisturbed : LeavingUndisturbed
leaving_undisturbed a h = laws.undisturbed (Leave a) refl (leave_readable a h)
