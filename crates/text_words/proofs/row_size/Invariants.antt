-- `text_words::row_size` meets its contract: the loop stops at the first line feed.
use Rattle.text_words.proofs.Laws.Rows.{Passed}
use Rattle.text_words.proofs.row_size.Given as goal

abbrev pub invariant-loop-i : goal.invariant-loop-i
invariant-loop-i l = Passed l.rest l.i
