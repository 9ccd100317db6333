-- `meter_record::wrong_mode` meets its contract.
use Rattle.meter_record.proofs.wrong_mode.Goals as goal

pub returns-in-Verifying : goal.returns-in-Verifying
returns-in-Verifying c = cc
