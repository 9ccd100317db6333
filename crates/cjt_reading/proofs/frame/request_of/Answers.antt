-- `cjt_reading::frame::request_of` meets its contract.
use Rattle.cjt_reading.proofs.frame.request_of.Goals as goal

pub returns : goal.returns
returns c = rw (c.byte_at-serial.ensures, c.party_of-address.ensures, c.byte_at-meter_type.ensures)
