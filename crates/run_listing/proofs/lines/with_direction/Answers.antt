-- `run_listing::lines::with_direction` meets its contract, by cases on the direction.
use native.Mathlib.Omega.{arith}
use borrow.Author.Tests.{eq-eqb, ne_eqb}
use Rattle.run_listing.proofs.lines.with_direction.Goals as goal

pub returns-then-direction-eq0 : goal.returns-then-direction-eq0
returns-then-direction-eq0 c = record { small = omega arith; whole = c.with.ensures.whole; so = rw (eq-eqb _ _ c.if-direction-eq0.true) c.with.ensures.so }

pub returns : goal.returns
returns c = record { small = omega arith; whole = c.with-2.ensures.whole; so = rw (ne_eqb _ _ c.if-direction-eq0.false) c.with-2.ensures.so }
