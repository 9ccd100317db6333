-- `base_numbers::put_words` meets its contract: so many numbers are laid.
use Rattle.base_lent.proofs.Laws.PieceLaws.{Pieced}
use Rattle.base_numbers.specs.Numbers.{bytes_of}
use Rattle.base_numbers.proofs.put_words.Given as goal

abbrev pub invariant-loop-i : goal.invariant-loop-i
invariant-loop-i l = Pieced (bytes_of 8) 8 l.initial.out l.at l.words l.i l.out
