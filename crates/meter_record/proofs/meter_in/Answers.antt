-- `meter_record::meter_in` meets its contract.
use Rattle.meter_record.specs.MeterRecords.{meter_in}
use Rattle.meter_record.proofs.meter_in.Goals as goal

pub returns : goal.returns
unfolding meter_in
returns c =
    rw (
      c.number_at-4.ensures.so,
      c.number_at-3.ensures.so,
      c.number_at-2.ensures.so,
      c.number_at.ensures.so,
      c.mode_in-mode.ensures,
      c.number_at-last.ensures.so,
    )
