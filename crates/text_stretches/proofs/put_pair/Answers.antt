-- `text_stretches::put_pair` meets its contract: two texts.
use mathlib.Core.List.{◌++◌}
use Rattle.text_filling.specs.Decimals.{decimal}
use Rattle.text_filling.proofs.Laws.WritingLaws.{two}
use Rattle.text_stretches.proofs.Laws.Stretches.{joined}
use borrow.Author.Rules.{rules}
use Rattle.text_stretches.proofs.put_pair.Goals as goal

pub returns : goal.returns
returns c =
    let a = c.args in
    rw (joined a.before.now (decimal a.m) a.middle.now (decimal a.n ++ a.after.now)) at
    (two (search rules) c.put_between-told.ensures c.put_between.ensures)
