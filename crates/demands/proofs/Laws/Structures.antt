-- The table of structures holds of the rules.
use Prim.Native.Nat.{ℕ}
use mathlib.Core.Bool.{Bool, true, false, cond, ◌&&◌, ◌||◌}
use mathlib.Core.List.{[], ◌∷◌}
use mathlib.Core.Path.{◌≡◌, refl}
use lib.Dec.{eqb, ltb}
use Rattle.mbus_rules.specs.Quantities.{quantity_of, unknown, width_of, is_packed, is_binary, is_time, paired}
use Rattle.demands.specs.Structures.{sorts, no_structures, WholeStructures, passing, StructuresOfAUnit}

pub whole_structures : WholeStructures
unfolding sorts no_structures width_of
whole_structures = refl

-- whichever unit byte it is
by_unit : (time known : Bool)
    → passing (λ (st : ℕ). cond time (eqb st 0x06) ((is_packed st || is_binary st) && known)) 0x00 256
    ≡ cond time (0x06 ∷ []) (cond known (0x01 ∷ 0x02 ∷ 0x03 ∷ 0x04 ∷ 0x06 ∷ 0x07 ∷ 0x0A ∷ 0x0B ∷ 0x0C ∷ 0x0E ∷ []) [])
unfolding passing
by_unit true known = refl
by_unit false true = refl
by_unit false false = refl

pub structures_of_a_unit : StructuresOfAUnit
unfolding paired
structures_of_a_unit u = by_unit (is_time u) (ltb (quantity_of u) unknown)
