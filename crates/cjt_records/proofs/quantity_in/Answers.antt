-- `cjt_records::quantity_in` meets its contract.
use Rattle.cjt_records.proofs.quantity_in.Goals as goal

pub returns : goal.returns
returns c = rw c.number_at-count.ensures.so
