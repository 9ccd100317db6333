-- `run_picture::drawing::put_head` meets its contract: four texts.
use Rattle.text_filling.proofs.Laws.WritingLaws.{four}
use borrow.Author.Rules.{rules}
use Rattle.run_picture.proofs.drawing.put_head.Goals as goal

pub returns : goal.returns
returns c =
    four (search rules) c.put_opens-opened.ensures c.put_style-styled.ensures c.put_title-titled.ensures c.put_legend.ensures
