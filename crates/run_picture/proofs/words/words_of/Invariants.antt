-- `run_picture::words::words_of` meets its contract: a row more each time.
use Prim.Native.Nat.{◌-◌, ◌≤◌}
use Rattle.run_picture.specs.Words.{Worded}
use Rattle.run_picture.proofs.words.words_of.Given as goal

abbrev pub invariant-loop-i : goal.invariant-loop-i
invariant-loop-i l = (l.i ≤ l.bundle.count) × Worded l.bundle.bytes.now l.i l.words

abbrev pub decreases-loop-i : goal.decreases-loop-i
decreases-loop-i l = l.bundle.count - l.i
