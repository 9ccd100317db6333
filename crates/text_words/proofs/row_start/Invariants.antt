-- `text_words::row_start` meets its contract: the loop skips rows.
use Rattle.text_words.proofs.Laws.Rows.{Skipped}
use Rattle.text_words.proofs.row_start.Given as goal

abbrev pub invariant-loop-i : goal.invariant-loop-i
invariant-loop-i l = Skipped l.words l.n l.left l.i
