-- `text_words::say` meets its contract: the loop copies.
use Prim.Native.Nat.{◌-◌}
use lib.ListN.{length}
use Rattle.text_words.proofs.Laws.Saying.{Copied}
use Rattle.text_words.proofs.say.Given as goal

abbrev pub invariant-loop-i : goal.invariant-loop-i
invariant-loop-i l = Copied l.words l.initial.out l.i l.out

abbrev pub decreases-loop-i : goal.decreases-loop-i
decreases-loop-i l = length l.words - l.i
