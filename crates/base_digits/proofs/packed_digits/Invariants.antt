-- `base_digits::packed_digits` meets its contract: the bytes so far, and the digits that are left.
use Rattle.base_digits.proofs.Laws.PackingLaws.{Packing}
use Rattle.base_digits.proofs.packed_digits.Given as goal

abbrev pub invariant-loop-byte : goal.invariant-loop-byte
invariant-loop-byte g l = Packing g.row.N l.n l.byte-items l.byte-index l.rest
