-- `mbus_writing::bytes::head_bytes` meets its contract.
use Rattle.base_digits.specs.Digits.{packed}
use Rattle.mbus_writing.proofs.bytes.head_bytes.Goals as goal

pub returns : goal.returns
unfolding packed
returns c = rw c.packed_digits.ensures
