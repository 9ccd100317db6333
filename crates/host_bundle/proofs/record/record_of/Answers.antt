-- `host_bundle::record::record_of` meets its contract, byte by byte.
use Rattle.base_numbers.specs.Numbers.{bytes_of}
use Rattle.host_bundle.proofs.record.record_of.Goals as goal

pub returns : goal.returns
unfolding bytes_of
returns c =
    rw (c.bytes_of-time.ensures, c.bytes_of-offset.ensures, c.bytes_of-length.ensures)
