-- `base_characters::pairs::gather_blocks` meets its contract: one loop looks at each character for range, parity and sum.
use Rattle.std.proofs.Common.{take}
use Rattle.base_characters.specs.Characters.{chars}
use Rattle.base_characters.proofs.Laws.WalkLaws.{Walk}
use Rattle.base_characters.proofs.pairs.gather_blocks.Given as goal

abbrev pub invariant-loop-i : goal.invariant-loop-i
invariant-loop-i l = Walk (take l.whole (chars l.bytes)) l.initial.out 0 l.i l.flags l.sum l.out
