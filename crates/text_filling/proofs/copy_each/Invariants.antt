-- `text_filling::copy_each` meets its contract: so many bytes are copied.
use mathlib.Core.Path.{◌≡◌}
use lib.ListN.{length, take}
use Rattle.text_filling.proofs.copy_each.Given as goal

abbrev pub invariant-loop-i : goal.invariant-loop-i
invariant-loop-i l = (length l.to ≡ length l.from) × (take l.i l.to ≡ take l.i l.from)
