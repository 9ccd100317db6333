-- `base_characters::pairs::any_over` meets its contract: the loop looks at each character.
use Rattle.base_characters.specs.Characters.{over, chars}
use Rattle.base_rules.proofs.Laws.ListLaws.{Gathered}
use Rattle.base_characters.proofs.pairs.any_over.Given as goal

abbrev pub invariant-loop-i : goal.invariant-loop-i
invariant-loop-i l = Gathered over (chars l.bytes) l.i l.found
