-- `cjt_writing::bytes::quantities_bytes` meets its contract: the values so far lie one behind the other.
use Rattle.base_lent.proofs.Laws.PieceLaws.{Pieced}
use Rattle.cjt_rules.specs.CjtWriting.{bytes_of_quantity}
use Rattle.cjt_writing.proofs.bytes.quantities_bytes.Given as goal

abbrev pub invariant-loop-i : goal.invariant-loop-i
invariant-loop-i l = Pieced bytes_of_quantity 5 l.initial.bytes 0 l.fn.values l.i l.bytes
