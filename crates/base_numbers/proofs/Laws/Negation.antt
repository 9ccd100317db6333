-- A size with a minus sign in the signed type of 64 bits: of a size below 2 ^ 63 the signed reading is the size, and the type holds its negation.
use Prim.Native.Nat.{ℕ, zero, suc, ◌<◌, ◌^◌}
use mathlib.Core.Bool.{not}
use mathlib.Core.Path.{◌≡◌, refl, sym, ◌∙◌, ap}
use native.Mathlib.Omega.{arith}
use borrow.Author.Tests.{lt-ltb, ne_eqb}
use lib.IntN.{ℤ, pos, negsuc, neg_ℤ, nat_abs, ◌-ℤ◌, +ℤ_idl}
use lib.Dec.{ltb}
use mir.Syntax.{w64}
use mir.Val.{SFits, to_z}
use mir.ValLaws.{to_z-of_z}
use Rattle.base_numbers.specs.TwosComplement.{is_zero}

pub negation_fits : (n : ℕ) → n < 2 ^ 63 → SFits w64 (neg_ℤ (pos n))
negation_fits zero h = omega arith
negation_fits (suc n) h = omega arith

pub negated : (n : ℕ) → n < 2 ^ 63 → pos 0 -ℤ to_z w64 n ≡ neg_ℤ (pos n)
negated n h = ap (λ z. pos 0 -ℤ z) (to_z-of_z w64 (pos n) (record { sfits = h })) ∙ +ℤ_idl (neg_ℤ (pos n))

-- a number's size is not 0 where it is not zero
pub size_used : (z : ℤ) → ltb 0 (nat_abs z) ≡ not (is_zero z)
size_used (pos zero) = refl
size_used (pos (suc n)) = lt-ltb 0 (suc n) (omega arith) ∙ sym (ap not (ne_eqb (suc n) 0 (λ z. absurd (omega arith))))
size_used (negsuc n) = lt-ltb 0 (suc n) (omega arith)
