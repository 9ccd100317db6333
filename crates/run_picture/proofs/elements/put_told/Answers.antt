-- `run_picture::elements::put_told` meets its contract: the number, where there is one.
use Rattle.text_filling.proofs.Laws.WritingLaws.{nothing}
use native.Mathlib.Omega.{arith}
use Rattle.run_picture.proofs.elements.put_told.Goals as goal

pub returns-then-numbered : goal.returns-then-numbered
returns-then-numbered c =
    rw c.if-numbered.true c.put_between.ensures

pub returns : goal.returns
returns c = rw c.if-numbered.false (nothing (omega (arith, c.ranges.at)))
