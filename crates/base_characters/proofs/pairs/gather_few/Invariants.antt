-- `base_characters::pairs::gather_few` meets its contract: one loop looks at each character for range, parity and sum.
use Rattle.std.proofs.Common.{◌-◌, take, drop}
use Rattle.base_characters.specs.Characters.{chars}
use Rattle.base_characters.proofs.Laws.WalkLaws.{Walk}
use Rattle.base_characters.proofs.pairs.gather_few.Given as goal

abbrev pub invariant-loop-i : goal.invariant-loop-i
invariant-loop-i l = Walk (drop l.from (take l.count (chars l.bytes))) l.initial.out l.from (l.i - l.from) l.flags l.sum l.out
