-- `text_words::say_of_lines` meets its contract.
use Rattle.text_words.proofs.Laws.Blocks.{block, row_of_lines}
use Rattle.text_words.specs.Refusals.{text_of, words_in}
use Rattle.text_words.proofs.say_of_lines.Goals as goal

pub returns : goal.returns
unfolding block text_of words_in
returns c =
    rw (row_of_lines c.args.number c.requires) at c.say_row.ensures
