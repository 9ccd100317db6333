-- `text_filling::put_byte` meets its contract.
use Rattle.text_filling.proofs.Laws.WritingLaws.{put_past}
use Rattle.text_filling.proofs.put_byte.Goals as goal

pub returns : goal.returns
returns c = put_past c.if-at-out.false c.saturating_add.ensures
