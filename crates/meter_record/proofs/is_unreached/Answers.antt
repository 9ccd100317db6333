-- `meter_record::is_unreached` meets its contract.
use Rattle.meter_record.proofs.is_unreached.Goals as goal

pub returns : goal.returns
returns c =
    rw (
      c.wrong_pair-high.ensures,
      c.wrong_pair-low.ensures,
      c.wrong_mode-stuck.ensures,
      c.is_unfit-unfit.ensures,
      c.of-least.ensures,
      c.mode_of-mode.ensures,
    )
