-- 01, "Entry", the table of quantities, for C: what a unit byte means.
use Rattle.std.specs.Prelude.{ℕ, List, [], ◌∷◌, ◌++◌, eqb, ℤ}
use Rattle.base_rules.specs.Answers.{Answer, reads, refuse}
use Rattle.base_numbers.specs.TwosComplement.{binary_bytes}
use Rattle.mbus_rules.specs.Quantities.{quantity_of, unit_of, power_of, unknown}
use Rattle.base_lent.specs.Lent.{placed}

-- What a unit byte means: a value's last digit is ten to the power, in the unit. The power of a point in time is 0.
pub record Meaning : Type 0 where
  pub quantity : ℕ
  pub unit : ℕ
  pub power : ℤ

abbrev pub meant : ℕ → ℕ → ℤ → Meaning
meant q u p = record { quantity = q; unit = u; power = p }

-- 11: a unit byte that is in no row
abbrev pub meaning_of : ℕ → Answer Meaning
meaning_of u = refuse 11 (eqb (quantity_of u) unknown) (reads (meant (quantity_of u) (unit_of u) (power_of u)))

-- `struct skarrowith_meaning`, 4 bytes; the power in two's complement, which is `int8_t`
abbrev pub meaning_bytes : Meaning → List ℕ
meaning_bytes m = m.quantity ∷ m.unit ∷ (binary_bytes 1 m.power ++ (0 ∷ []))

-- 11, then 21.
abbrev pub meaning_for : ℕ → List ℕ → Answer Meaning
meaning_for u out = placed 4 out (meaning_of u)
