-- `base_characters::line::gather` meets its contract: one loop looks at each character for range, parity and sum.
use Rattle.base_characters.proofs.Laws.WalkLaws.{Walk}
use Rattle.base_characters.proofs.line.gather.Given as goal

abbrev pub invariant-loop-i : goal.invariant-loop-i
invariant-loop-i l = Walk l.seen l.initial.out 0 l.i l.flags l.sum l.out
