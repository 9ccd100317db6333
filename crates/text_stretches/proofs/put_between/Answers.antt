-- `text_stretches::put_between` meets its contract: three texts.
use Rattle.text_filling.proofs.Laws.WritingLaws.{three}
use borrow.Author.Rules.{rules}
use Rattle.text_stretches.proofs.put_between.Goals as goal

pub returns : goal.returns
returns c =
    three (search rules) c.put-opened.ensures c.put_decimal-told.ensures c.put.ensures
