-- `meter_record::head_bytes` meets its contract.
use Rattle.base_numbers.specs.Numbers.{bytes_of}
use Rattle.meter_record.proofs.head_bytes.Goals as goal

pub returns : goal.returns
unfolding bytes_of
returns c = rw (c.bytes_of-step.ensures, c.method_of-method.ensures, c.mode_number-number.ensures)
