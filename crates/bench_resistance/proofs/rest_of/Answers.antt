-- `bench_resistance::rest_of` meets its contract.
use Rattle.bench_resistance.proofs.Laws.Lines.{rest_below, rest_not_above, rest_last}
use Rattle.bench_resistance.proofs.rest_of.Goals as goal

pub returns : goal.returns
returns c =
    let a = c.args in
    let low = c.requires.0 in
    let high = c.requires.1 in (
      rest_below a.low a.high a.milliohm low high,
      rest_not_above a.low a.high a.milliohm low high,
      rest_last a.low a.high a.milliohm low high,
    )
