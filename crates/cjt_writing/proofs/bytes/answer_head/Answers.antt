-- `cjt_writing::bytes::answer_head` meets its contract.
use Rattle.base_digits.specs.Digits.{packed}
use Rattle.cjt_writing.proofs.bytes.answer_head.Goals as goal

pub returns : goal.returns
unfolding packed
returns c = rw c.packed_digits-b.ensures
