-- `cjt_reading::parts::wrong_listed` meets its contract, part by part.
use Rattle.cjt_reading.proofs.parts.wrong_listed.Goals as goal

pub returns : goal.returns
returns c =
    rw (
      c.wrong_clock-clock.ensures,
      c.clock_in.ensures,
      c.wrong_at-digits.ensures,
      c.wrong_at-hours.ensures,
      c.wrong_at-outlet.ensures,
      c.wrong_at-inlet.ensures,
      c.wrong_at-volume.ensures,
      c.wrong_at-flow.ensures,
      c.wrong_at-power.ensures,
      c.wrong_at-heat.ensures,
      c.wrong_at-cold.ensures,
    )
