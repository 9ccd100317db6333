-- `cjt_records::cjt_in` meets its contract.
use Rattle.cjt_records.specs.CjtRecords.{cjt_in}
use borrow.Author.Tests.{eq-eqb, ne_eqb}
use Rattle.cjt_records.proofs.cjt_in.Goals as goal

pub returns-then-tells : goal.returns-then-tells
unfolding cjt_in
returns-then-tells c = rw ((eq-eqb _ _ c.if-tells.true), c.answer_in.ensures)

pub returns : goal.returns
unfolding cjt_in
returns c = rw ((ne_eqb _ _ c.if-tells.false), c.address_in-address.ensures)
