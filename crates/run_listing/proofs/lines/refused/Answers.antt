-- `run_listing::lines::refused` meets its contract.
use native.Mathlib.Omega.{arith}
use Rattle.run_listing.proofs.lines.refused.Goals as goal

pub returns : goal.returns
returns c = record { small = omega arith; whole = c.with_number.ensures.whole; so = rw (c.with_number.ensures.so, c.begin-word.ensures.so) }
