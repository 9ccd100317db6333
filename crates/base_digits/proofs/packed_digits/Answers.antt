-- `base_digits::packed_digits` meets its contract: the bytes so far, and the digits that are left.
use Rattle.base_digits.proofs.Laws.PackingLaws.{packing_none, packing_next, packing_all}
use Rattle.base_digits.proofs.packed_digits.Goals as goal

pub loop-byte-init : goal.loop-byte-init
loop-byte-init g c = packing_none g.row.N c.args.n

pub loop-byte-preserved : goal.loop-byte-preserved
loop-byte-preserved g c = packing_next c.loop-byte.invariant c.loop-byte-test.true c.two_digits.ensures

pub returns : goal.returns
returns g c = packing_all c.loop-byte.invariant c.loop-byte-test.false
