-- `cjt_reading::frame::wrong_frame` meets its contract.
use mathlib.Core.Bool.{not}
use mathlib.Core.Path.{ap}
use Rattle.std.proofs.Common.{sym, eq-eqb, ne_eqb}
use Rattle.cjt_reading.proofs.Laws.FrameLaws.{frame_unknown, frame_count, frame_ends}
use borrow.Author.Tests.{not-true, not-false}
use Rattle.cjt_reading.proofs.frame.wrong_frame.Goals as goal

pub returns-then-not-known : goal.returns-then-not-known
returns-then-not-known c = sym (frame_unknown c.args.b.now (rw (← c.byte_at-size.ensures) (not-true _ (ap not c.if-not-known.true))))

pub returns-then-count-size : goal.returns-then-count-size
returns-then-count-size c =
    sym (frame_count c.args.b.now (rw (← c.byte_at-size.ensures) (ne_eqb _ _ c.if-count-size.true)))

pub returns : goal.returns
returns c =
    sym (frame_ends c.args.b.now (rw (← c.byte_at-size.ensures)
    (not-false _ (ap not c.if-not-known.false)))
    (rw (← c.byte_at-size.ensures) (eq-eqb _ _ c.if-count-size.false)))
