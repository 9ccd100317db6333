-- `cjt_records::head_bytes` meets its contract.
use Rattle.base_numbers.specs.Numbers.{bytes_of}
use Rattle.cjt_records.proofs.head_bytes.Goals as goal

pub returns : goal.returns
unfolding bytes_of
returns c = rw c.bytes_of-n.ensures
