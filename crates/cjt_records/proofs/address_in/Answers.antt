-- `cjt_records::address_in` meets its contract.
use borrow.Author.Tests.{eq-eqb, ne_eqb}
use Rattle.cjt_records.proofs.address_in.Goals as goal

pub returns-then-broadcast : goal.returns-then-broadcast
returns-then-broadcast c = rw (eq-eqb _ _ c.if-broadcast.true)

pub returns : goal.returns
returns c = rw ((ne_eqb _ _ c.if-broadcast.false), c.number_at.ensures.so)
