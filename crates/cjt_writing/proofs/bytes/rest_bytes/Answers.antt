-- `cjt_writing::bytes::rest_bytes` meets its contract.
use Rattle.base_digits.specs.Digits.{packed}
use Rattle.cjt_writing.proofs.bytes.rest_bytes.Goals as goal

pub returns : goal.returns
unfolding packed
returns c = rw (c.clock_bytes-c.ensures, c.sixes_bytes-s.ensures)
