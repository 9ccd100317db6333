-- `cjt_fields::wrong_units` meets its contract.
use Rattle.cjt_fields.proofs.wrong_units.Goals as goal

pub returns : goal.returns
returns c =
    rw (
      c.is_volume-volume.ensures,
      c.is_flow-flow.ensures,
      c.is_power-power.ensures,
      c.is_energy-heat.ensures,
      c.is_energy-cold.ensures,
    )
