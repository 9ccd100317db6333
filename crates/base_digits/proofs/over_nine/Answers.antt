-- `base_digits::over_nine` meets its contract: the masks, byte by byte.
use native.Mathlib.Omega.{arith}
use lib.Bits.{and_le_r}
use Rattle.base_digits.proofs.Laws.WordLaws.{over_bytes}
use Rattle.base_digits.proofs.over_nine.Goals as goal

pub overflow_add-result : goal.overflow_add-result
overflow_add-result c = omega (arith, and_le_r c.args.word 0x6666666666666666)

pub returns : goal.returns
returns c = over_bytes 8 c.args.word
