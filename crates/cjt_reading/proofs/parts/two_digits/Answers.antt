-- `cjt_reading::parts::two_digits` meets its contract.
use Rattle.std.proofs.Common.{arith}
use Rattle.base_digits.specs.Digits.{digits_of}
use Rattle.cjt_reading.proofs.parts.two_digits.Goals as goal

pub returns : goal.returns
unfolding digits_of
returns c = omega arith
