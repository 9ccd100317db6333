-- `cjt_writing::bytes::request_bytes` meets its contract.
use mathlib.Core.Path.{ap, ◌∙◌}
use Rattle.base_characters.specs.Closing.{closed}
use Rattle.cjt_writing.proofs.bytes.request_bytes.Goals as goal

pub returns : goal.returns
returns c = c.close.ensures ∙ ap closed c.request_frame.ensures
