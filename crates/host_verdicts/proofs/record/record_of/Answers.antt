-- `host_verdicts::record::record_of` meets its contract, byte by byte.
use Rattle.base_numbers.specs.Numbers.{bytes_of}
use Rattle.host_verdicts.proofs.record.record_of.Goals as goal

pub returns : goal.returns
unfolding bytes_of
returns c = rw (c.bytes_of-number.ensures, c.bytes_of-by.ensures, c.number_of.ensures, c.by_number.ensures)
