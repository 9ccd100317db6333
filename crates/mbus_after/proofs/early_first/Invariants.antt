-- `mbus_after::early_first` meets its contract: every time passed is before t.
use Prim.Native.Nat.{◌+◌}
use mathlib.Core.Path.{◌≡◌}
use lib.ListN.{drop}
use Rattle.mbus_after.specs.After.{early_first}
use Rattle.mbus_after.proofs.early_first.Given as goal

abbrev pub invariant-loop-i : goal.invariant-loop-i
invariant-loop-i l = l.i + early_first l.t (drop l.i l.times) ≡ early_first l.t l.times
