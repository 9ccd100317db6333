-- `host_meaning::power_byte` meets its contract.
use Rattle.mbus_rules.specs.Quantities.{power_of}
use Rattle.mbus_rules.proofs.Laws.RowLaws.{low_some}
use Rattle.host_meaning.proofs.power_byte.Goals as goal

pub nonzero_rem-unit : goal.nonzero_rem-unit
nonzero_rem-unit c = rw c.requires (low_some c.args.unit)

pub returns : goal.returns
unfolding power_of
returns c = rw (← c.requires) c.less.ensures
