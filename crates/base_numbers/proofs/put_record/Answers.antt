-- `base_numbers::put_record` meets its contract: the parts are laid one behind the other.
use mathlib.Core.Path.{sym, ◌∙◌}
use Rattle.base_numbers.proofs.Laws.RecordLaws.{record_short, record_room, record_laid}
use Rattle.base_numbers.proofs.put_record.Goals as goal

pub returns-then-is_short : goal.returns-then-is_short
returns-then-is_short c =
    let a = c.args in
    record_short a.out.now a.head.now a.words.now a.tail.now (sym c.is_short.ensures ∙ c.if-is_short.true)

pub put_words-requires : goal.put_words-requires
put_words-requires c =
    let a = c.args in
    record_room a.out.now a.head.now a.words.now a.tail.now
    (sym c.is_short.ensures ∙ c.if-is_short.false)
    c.lay.ensures

pub returns : goal.returns
returns c =
    let a = c.args in
    record_laid a.out.now a.head.now a.words.now a.tail.now
    (sym c.is_short.ensures
    ∙ c.if-is_short.false)
    c.lay.ensures
    c.put_words.ensures c.lay-2.ensures
