-- `text_words::say_of_bundles` meets its contract.
use Rattle.text_words.proofs.Laws.Blocks.{block, row_of_bundles}
use Rattle.text_words.specs.Refusals.{text_of, words_in}
use Rattle.text_words.proofs.say_of_bundles.Goals as goal

pub returns : goal.returns
unfolding block text_of words_in
returns c =
    rw (row_of_bundles c.args.number c.requires.0 c.requires.1) at c.say_row.ensures
