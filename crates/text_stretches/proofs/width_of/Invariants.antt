-- `text_stretches::width_of` meets its contract: a digit is taken off in each turn.
use mathlib.Core.Path.{◌≡◌}
use Prim.Native.Nat.{◌+◌, ◌≤◌}
use lib.ListN.{length}
use Rattle.text_filling.specs.Decimals.{digits, decimal}
use Rattle.text_stretches.proofs.width_of.Given as goal

abbrev pub invariant-loop-rest : goal.invariant-loop-rest
invariant-loop-rest l = (l.size ≤ 20) × (l.size + length (digits l.rest) ≡ length (decimal l.n))

abbrev pub decreases-loop-rest : goal.decreases-loop-rest
decreases-loop-rest l = l.rest
