-- `run_picture::elements::put_box` meets its contract, by cases on the direction.
use borrow.Author.Tests.{eq-eqb, ne_eqb}
use Rattle.run_picture.proofs.elements.put_box.Goals as goal

pub returns-then-sent : goal.returns-then-sent
returns-then-sent c =
    rw (eq-eqb _ _ c.if-sent.true) c.put_pair.ensures

pub returns : goal.returns
returns c =
    rw (ne_eqb _ _ c.if-sent.false) c.put_pair-2.ensures
