-- `run_listing::put_word` meets its contract: the word is put.
use lib.Seq.{length-take-le}
use native.Mathlib.Omega.{arith}
use mathlib.Core.Path.{sym}
use Rattle.run_listing.proofs.put_word.Goals as goal

pub slice_bounds-put-end : goal.slice_bounds-put-end
slice_bounds-put-end c =
    sym (length-take-le c.word_of-word.result.size c.word_of-word.result.bytes (omega arith))

pub returns : goal.returns
returns c =
    rw (← c.word_of-word.ensures.so) c.put.ensures
