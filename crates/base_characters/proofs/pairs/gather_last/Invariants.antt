-- `base_characters::pairs::gather_last` meets its contract: one loop over a block, of which the end alone counts.
use Rattle.std.proofs.Common.{take}
use Rattle.base_characters.specs.Characters.{chars}
use Rattle.base_characters.proofs.Laws.PartLaws.{Last}
use Rattle.base_characters.proofs.pairs.gather_last.Given as goal

abbrev pub invariant-loop-j : goal.invariant-loop-j
invariant-loop-j l = Last (take l.count (chars l.bytes)) l.count l.initial.out l.j l.flags l.sum l.out
