-- `cjt_reading::parts::tells_in` meets its contract, part by part.
use Rattle.cjt_reading.proofs.parts.tells_in.Goals as goal

pub returns : goal.returns
returns c =
    rw (
      c.byte_at-second_state.ensures,
      c.byte_at-first_state.ensures,
      c.clock_in-clock.ensures,
      c.count_at-hours.ensures,
      c.count_at-outlet.ensures,
      c.count_at-inlet.ensures,
      c.value_at-volume.ensures,
      c.value_at-flow.ensures,
      c.value_at-power.ensures,
      c.value_at-heat.ensures,
      c.value_at-cold.ensures,
    )
