-- `cjt_reading::parts::four_digits` meets its contract.
use Rattle.std.proofs.Common.{arith}
use Rattle.base_digits.specs.Digits.{digits_of}
use Rattle.cjt_reading.proofs.parts.four_digits.Goals as goal

pub returns : goal.returns
unfolding digits_of
returns c = omega (arith, c.two_digits-high.ensures, c.two_digits-low.ensures)
