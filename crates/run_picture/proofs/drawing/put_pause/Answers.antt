-- `run_picture::drawing::put_pause` meets its contract, by cases.
use Rattle.text_filling.proofs.Laws.WritingLaws.{nothing}
use native.Mathlib.Omega.{arith}
use borrow.Author.Tests.{le-ltb, lt-ltb}
use Rattle.run_picture.proofs.drawing.put_pause.Goals as goal

pub returns-then-short : goal.returns-then-short
returns-then-short c =
    rw ((lt-ltb _ _ c.if-short.true), ← c.saturating_sub-x.ensures, ← c.saturating_sub-width.ensures) c.fill.ensures

pub returns : goal.returns
returns c = rw (le-ltb _ _ c.if-short.false) (nothing (omega arith))
