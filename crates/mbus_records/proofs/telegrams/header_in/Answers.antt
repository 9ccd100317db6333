-- `mbus_records::telegrams::header_in` meets its contract.
use Rattle.mbus_records.proofs.telegrams.header_in.Goals as goal

pub returns : goal.returns
returns c =
    rw (c.number_at-maker.ensures.so, c.number_at-number.ensures.so)
