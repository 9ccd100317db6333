-- `run_picture::drawing::Scene::put_behind` meets its contract: three texts.
use Rattle.text_filling.proofs.Laws.WritingLaws.{three}
use borrow.Author.Rules.{rules}
use Rattle.run_picture.proofs.drawing.Scene.put_behind.Goals as goal

pub returns : goal.returns
returns c =
    three (search rules) c.put_pauses_open-opened.ensures c.put_pauses-drawn.ensures c.put.ensures
