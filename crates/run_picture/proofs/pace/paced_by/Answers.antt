-- `run_picture::pace::paced_by` meets its contract.
use native.Mathlib.Omega.{arith}
use Rattle.run_picture.proofs.pace.paced_by.Goals as goal

pub returns : goal.returns
returns c =
    (rw (c.saturating_sub-start.ensures, c.max-busy.ensures, c.saturating_sub-rest.ensures, c.saturating_sub-pause.ensures), omega arith, omega arith, omega arith)
