-- `cjt_writing::unwritten::unwritten_request` meets its contract.
use Rattle.cjt_rules.specs.CjtWriting.{unwritten}
use Rattle.cjt_writing.proofs.unwritten.unwritten_request.Goals as goal

pub returns : goal.returns
unfolding unwritten
returns c = rw (c.is_heat_type-known.ensures, c.unwritten_party-long.ensures)
