-- `cjt_writing::bytes::sixes_bytes` meets its contract.
use Rattle.base_digits.specs.Digits.{packed}
use Rattle.cjt_writing.proofs.bytes.sixes_bytes.Goals as goal

pub returns : goal.returns
unfolding packed
returns c = rw (c.packed_digits-h.ensures, c.packed_digits-o.ensures, c.packed_digits-i.ensures)
