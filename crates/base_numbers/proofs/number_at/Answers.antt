-- `base_numbers::number_at` meets its contract: where bytes are missing, those that are there give the number.
use Rattle.std.proofs.Common.{min, arith}
use Rattle.base_numbers.proofs.Laws.NumberLaws.{numbered_none, numbered_part}
use Rattle.base_numbers.proofs.number_at.Goals as goal

pub returns-then-s-at : goal.returns-then-s-at
returns-then-s-at c = numbered_none c.args.s.now c.args.at (min c.args.width 8) c.if-s-at.true

pub returns-then-s-at-2 : goal.returns-then-s-at-2
returns-then-s-at-2 c = numbered_part c.args.s.now c.args.at (min c.args.width 8) _ c.if-s-at.false (omega arith) c.number_of.ensures.0 c.number_of.ensures.1

pub returns : goal.returns
returns c = numbered_part c.args.s.now c.args.at (min c.args.width 8) _ c.if-s-at.false (omega arith) c.number_of-2.ensures.0 c.number_of-2.ensures.1
