-- `cjt_reading::frame::wrong_mark` meets its contract.
use borrow.Author.Tests.{eq-eqb, ne_eqb}
use Rattle.cjt_reading.proofs.frame.wrong_mark.Goals as goal

pub returns-then-asks : goal.returns-then-asks
returns-then-asks c =
    rw (
      ← c.byte_at-asks.ensures,
      (eq-eqb _ _ c.if-asks.true),
      c.byte_at-low.ensures,
      c.byte_at-high.ensures,
      c.byte_at-control.ensures,
    )

pub returns : goal.returns
returns c =
    rw (
      ← c.byte_at-asks.ensures,
      (ne_eqb _ _ c.if-asks.false),
      c.byte_at-low.ensures,
      c.byte_at-high.ensures,
      c.byte_at-control.ensures,
    )
