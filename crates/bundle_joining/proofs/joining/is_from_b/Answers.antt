-- `bundle_joining::joining::is_from_b` meets its contract.
use Rattle.bundle_joining.proofs.joining.is_from_b.Goals as goal

pub returns : goal.returns
returns c = rw (← c.row-of_a.ensures, ← c.row-of_b.ensures)
