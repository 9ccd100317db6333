-- `mbus_records::telegrams::head_bytes` meets its contract.
use Rattle.base_numbers.specs.Numbers.{bytes_of}
use Rattle.mbus_records.proofs.telegrams.head_bytes.Goals as goal

pub returns : goal.returns
unfolding bytes_of
returns c =
    rw (c.bytes_of-m.ensures, c.bytes_of-n.ensures, c.kind_number.ensures)
