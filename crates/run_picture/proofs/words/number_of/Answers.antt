-- `run_picture::words::number_of` meets its contract: a wake-up, or the outline.
use mathlib.Core.Path.{sym, ◌∙◌}
use Rattle.run_listing.specs.Listings.{word_of}
use Rattle.run_picture.specs.Words.{numbered_word}
use Rattle.run_picture.proofs.words.number_of.Goals as goal

pub returns-in-Wake : goal.returns-in-Wake
unfolding numbered_word word_of
returns-in-Wake c = rw (sym c.column_of.ensures ∙ c.in-Wake.is)

pub returns-in-Reads : goal.returns-in-Reads
unfolding word_of
returns-in-Reads c = rw (sym c.column_of.ensures ∙ c.in-Reads.is) c.number_for.ensures
