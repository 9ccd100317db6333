-- `host_meaning::less` meets its contract.
use native.Mathlib.Omega.{arith}
use Rattle.host_meaning.proofs.Laws.MeaningLaws.{byte_less}
use Rattle.host_meaning.proofs.less.Goals as goal

pub returns : goal.returns
returns c = byte_less c.args.n c.args.by (omega arith) (omega arith)
