-- `cjt_records::answer_in` meets its contract.
use Rattle.cjt_records.proofs.answer_in.Goals as goal

pub returns : goal.returns
returns c =
    rw (
      c.clock_in-clock.ensures,
      c.four_in-hours.ensures,
      c.four_in-outlet.ensures,
      c.four_in-inlet.ensures,
      c.quantity_in-volume.ensures,
      c.quantity_in-flow.ensures,
      c.quantity_in-power.ensures,
      c.quantity_in-heat.ensures,
      c.quantity_in-cold.ensures,
      c.number_at-address.ensures.so,
    )
