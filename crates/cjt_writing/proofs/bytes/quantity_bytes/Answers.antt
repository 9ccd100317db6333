-- `cjt_writing::bytes::quantity_bytes` meets its contract.
use Rattle.base_digits.specs.Digits.{packed}
use Rattle.cjt_writing.proofs.bytes.quantity_bytes.Goals as goal

pub returns : goal.returns
unfolding packed
returns c = rw c.packed_digits.ensures
