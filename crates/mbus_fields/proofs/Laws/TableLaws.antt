-- Laws about the table of quantities and structures.
use Prim.Native.Nat.{ℕ}
use mathlib.Core.Bool.{Bool, cond, ◌&&◌, ◌||◌}
use mathlib.Core.Path.{◌≡◌, ap}
use lib.Dec.{eqb, ltb}
use Rattle.mbus_rules.specs.Quantities.{quantity_of, paired, is_packed, is_binary, unknown}
use Rattle.mbus_rules.proofs.Laws.RowLaws.{time_quantity}
use Rattle.mbus_fields.specs.Fields.{goes_with}

pub goes_paired : (st u : ℕ) → goes_with st (quantity_of u) ≡ paired st u
unfolding paired
goes_paired st u = ap (λ (t : Bool). cond t (eqb st 0x06) ((is_packed st || is_binary st) && ltb (quantity_of u) unknown)) (time_quantity u)
