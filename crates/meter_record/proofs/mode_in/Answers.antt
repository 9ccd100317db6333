-- `meter_record::mode_in` meets its contract.
use borrow.Author.Tests.{eq-eqb, ne_eqb}
use Rattle.meter_record.proofs.mode_in.Goals as goal

pub returns-then-verifies : goal.returns-then-verifies
returns-then-verifies c = rw ((eq-eqb _ _ c.if-verifies.true), c.number_at-since.ensures.so)

pub returns : goal.returns
returns c = rw (ne_eqb _ _ c.if-verifies.false)
