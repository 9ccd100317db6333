-- `text_filling::fill` meets its contract: what is left of the text, with the numbers that are left, gives the whole.
use Prim.Native.Nat.{◌≤◌}
use lib.ListN.{drop}
use Rattle.text_filling.specs.Holes.{filled_with}
use Rattle.text_filling.proofs.Laws.WritingLaws.{Left}
use Rattle.text_filling.proofs.fill.Given as goal

abbrev pub invariant-loop-byte : goal.invariant-loop-byte
invariant-loop-byte l =
    (l.used ≤ l.byte-index)
    × Left (filled_with l.template l.numbers) l.initial.out l.at (filled_with (drop l.byte-index l.template) (drop l.used l.numbers)) l.next l.out
