-- `cjt_reading::parts::value_at` meets its contract.
use Rattle.cjt_reading.proofs.parts.value_at.Goals as goal

pub returns : goal.returns
returns c = rw (c.byte_at-code.ensures, c.count_at-count.ensures)
