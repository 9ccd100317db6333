-- `run_replay::figures::volume_of` meets its contract.
use native.Mathlib.Omega.{arith}
use Rattle.run_replay.proofs.Laws.Telling.{unit_above, volume_over, volume_small, volume_told}
use Rattle.run_replay.proofs.figures.volume_of.Goals as goal

pub nonzero_div-unit : goal.nonzero_div-unit
nonzero_div-unit c =
    omega (arith, unit_above c.args.e c.volume_count-count.ensures c.digit_of-unit.ensures)

pub returns-then-unit-count : goal.returns-then-unit-count
returns-then-unit-count c =
    volume_over c.args.e c.volume_count-count.ensures c.digit_of-unit.ensures c.if-unit-count.true

pub overflow_mul-result : goal.overflow_mul-result
overflow_mul-result c =
    omega (
      arith,
      volume_small c.args.e c.volume_count-count.ensures c.digit_of-unit.ensures c.if-unit-count.false,
    )

pub returns : goal.returns
returns c =
    volume_told c.args.e c.volume_count-count.ensures c.digit_of-unit.ensures c.if-unit-count.false
