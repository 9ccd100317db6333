-- `cjt_records::clock_in` meets its contract.
use Rattle.cjt_records.proofs.clock_in.Goals as goal

pub returns : goal.returns
returns c =
    rw c.number_at-year.ensures.so
