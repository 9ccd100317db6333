-- `cjt_writing::unwritten::unwritten_party` meets its contract.
use mathlib.Core.Path.{sym, ap}
use Rattle.cjt_rules.specs.CjtWriting.{unwritten_party}
use Rattle.cjt_writing.proofs.unwritten.unwritten_party.Goals as goal

pub returns-in-Meter : goal.returns-in-Meter
returns-in-Meter c = ap unwritten_party (sym c.in-Meter.is)
