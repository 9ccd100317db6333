-- `bench_resistance::card` meets its contract: the rule is computed for every entry of the table.
use mathlib.Core.Path.{refl}
use Rattle.bench_resistance.specs.Resistances.{stored_for, stored_from}
use Rattle.bench_resistance.proofs.card.Goals as goal

pub returns : goal.returns
unfolding stored_for stored_from
returns c = refl
