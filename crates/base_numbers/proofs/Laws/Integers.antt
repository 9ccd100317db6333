-- Laws of negation, and of the difference of two naturals as an integer.
use Prim.Native.Nat.{ℕ, zero, suc, ◌-◌, ◌*◌, ◌≤◌, ◌<◌}
use mathlib.Core.Path.{◌≡◌, refl, sym, ◌∙◌, ap}
use mathlib.Core.Bool.{Bool, true, false}
use native.Mathlib.Nat.{zero-mul}
use native.Mathlib.Omega.{arith}
use lib.Dec.{ltb}
use lib.IntN.{ℤ, pos, negsuc, neg_ℤ, nat_abs, ◌+ℤ◌, ◌-ℤ◌, ◌*ℤ◌, neg_ℤ-neg_ℤ, neg_ℤ-+ℤ, +ℤ_comm, *ℤ_comm}
use borrow.Author.Tests.{ltb-true, ltb-false, le-ltb}
use Rattle.base_numbers.specs.Rounding.{apart}

pub nat_abs_neg : (k : ℤ) → nat_abs (neg_ℤ k) ≡ nat_abs k
nat_abs_neg (pos zero) = refl
nat_abs_neg (pos (suc n)) = refl
nat_abs_neg (negsuc n) = refl

pub neg_times : (k : ℤ) (d : ℕ) → neg_ℤ k *ℤ pos d ≡ neg_ℤ (k *ℤ pos d)
neg_times (pos zero) d = rw zero-mul
neg_times (pos (suc n)) d = refl
neg_times (negsuc n) d = sym (neg_ℤ-neg_ℤ (pos (suc n * d)))

pub times_neg : (d : ℕ) (k : ℤ) → pos d *ℤ neg_ℤ k ≡ neg_ℤ (pos d *ℤ k)
times_neg d k = *ℤ_comm (pos d) (neg_ℤ k) ∙ neg_times k d ∙ ap neg_ℤ (*ℤ_comm k (pos d))

pub difference : (x y : ℕ) → y ≤ x → pos x -ℤ pos y ≡ pos (x - y)
difference x zero h = ap pos (omega arith)
difference x (suc y) h = rw (le-ltb x (suc y) h)

pub neg_minus : (m k : ℤ) → neg_ℤ (m -ℤ k) ≡ k -ℤ m
neg_minus m k = neg_ℤ-+ℤ m (neg_ℤ k) ∙ ap (λ z. neg_ℤ m +ℤ z) (neg_ℤ-neg_ℤ k) ∙ +ℤ_comm (neg_ℤ m) k

pub difference_neg : (x y : ℕ) → x ≤ y → pos x -ℤ pos y ≡ neg_ℤ (pos (y - x))
difference_neg x y h = sym (neg_minus (pos y) (pos x)) ∙ ap neg_ℤ (difference y x h)

pub nat_abs_difference : (x y : ℕ) → nat_abs (pos x -ℤ pos y) ≡ apart x y
nat_abs_difference x y = go (ltb x y) refl
  where
    go : (t : Bool) → ltb x y ≡ t → nat_abs (pos x -ℤ pos y) ≡ apart x y
    go true e =
        let h : x < y = ltb-true x y e in
        ap nat_abs (difference_neg x y (omega arith)) ∙ nat_abs_neg (pos (y - x)) ∙ omega arith
    go false e =
        let h : y ≤ x = ltb-false x y e in
        ap nat_abs (difference x y h) ∙ omega arith
