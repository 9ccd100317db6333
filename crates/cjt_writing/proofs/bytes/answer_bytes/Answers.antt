-- `cjt_writing::bytes::answer_bytes` meets its contract.
use mathlib.Core.Path.{ap, ◌∙◌}
use Rattle.base_digits.specs.Digits.{packed}
use Rattle.base_characters.specs.Closing.{closed}
use Rattle.cjt_writing.proofs.bytes.answer_bytes.Goals as goal

pub returns : goal.returns
unfolding packed
returns c = c.close.ensures ∙ ap closed c.answer_frame.ensures
