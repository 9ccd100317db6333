-- Proofs of the statements of specs/Meanings.
use Prim.Native.Nat.{ℕ}
use mathlib.Core.Path.{refl}
use Rattle.base_numbers.specs.TwosComplement.{fits_binary}
use Rattle.mbus_rules.specs.Quantities.{quantity_of, unit_of, power_of}
use Rattle.base_numbers.proofs.Laws.BinaryLaws.{binary_written}
use Rattle.base_rules.proofs.Laws.Tests.{below}
use Rattle.demands.specs.Meanings.{meanings, table_row, no_row, WholeTable, PowerReadBack}

pub whole_table : WholeTable
unfolding meanings table_row no_row quantity_of power_of unit_of
whole_table = refl

pub power_read_back : PowerReadBack
unfolding quantity_of power_of
power_read_back u h = (binary_written 1 (power_of u) (below 256 (λ (v : ℕ). fits_binary 1 (power_of v)) refl u h)).back
