-- `run_picture::elements::put_window` meets its contract: the window, where there is one.
use Rattle.text_filling.proofs.Laws.WritingLaws.{nothing}
use native.Mathlib.Omega.{arith}
use Rattle.run_picture.proofs.elements.put_window.Goals as goal

pub returns-then-sent : goal.returns-then-sent
returns-then-sent c =
    rw c.if-sent.true c.put_between.ensures

pub returns : goal.returns
returns c = rw c.if-sent.false (nothing (omega (arith, c.ranges.at)))
