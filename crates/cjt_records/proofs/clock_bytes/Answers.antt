-- `cjt_records::clock_bytes` meets its contract.
use Rattle.base_numbers.specs.Numbers.{bytes_of}
use Rattle.cjt_records.proofs.clock_bytes.Goals as goal

pub returns : goal.returns
unfolding bytes_of
returns c = rw c.bytes_of-y.ensures
