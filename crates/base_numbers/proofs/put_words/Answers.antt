-- `base_numbers::put_words` meets its contract: so many numbers are laid.
use Rattle.std.proofs.Common.{refl}
use Rattle.base_lent.proofs.Laws.PieceLaws.{pieced_none, pieced_next, pieced_all}
use Rattle.base_numbers.proofs.Laws.Numbers.{length_bytes}
use Rattle.base_numbers.proofs.put_words.Goals as goal

pub loop-i-init : goal.loop-i-init
loop-i-init c = pieced_none (length_bytes 8) c.requires

pub loop-i-preserved : goal.loop-i-preserved
loop-i-preserved c = pieced_next c.loop-i.invariant c.loop-i-test.true 0 refl c.put_number.ensures

pub returns : goal.returns
returns c = pieced_all c.loop-i.invariant c.loop-i-test.false
