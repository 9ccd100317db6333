-- `run_picture::words::put_numbered` meets its contract: a refusal, or a word of the six.
use native.Mathlib.Omega.{arith}
use Rattle.run_picture.proofs.Laws.Words.{word_refused}
use Rattle.run_picture.proofs.Laws.Wording.{line_edges_lem, line_words_lem}
use Rattle.run_picture.proofs.words.put_numbered.Goals as goal

pub returns-then-word-ge6 : goal.returns-then-word-ge6
returns-then-word-ge6 c =
    rw (word_refused c.args.word c.if-word-ge6.true) at c.put_between.ensures

pub put_part-requires : goal.put_part-requires
put_part-requires c =
    let e = line_edges_lem c.args.word (omega (arith, c.if-word-ge6.false)) in
    (e.order, e.end)

pub returns : goal.returns
returns c =
    rw (line_words_lem c.args.word (omega (arith, c.if-word-ge6.false))) at c.put_part.ensures
