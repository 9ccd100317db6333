-- A number's size against what its structure holds.
use Prim.Native.Nat.{ℕ, zero, suc, ◌-◌, ◌*◌, ◌/◌, ◌^◌, ◌≤◌, ◌<◌}
use mathlib.Core.Bool.{true, false, not, true≢false, false≢true}
use mathlib.Core.Path.{◌≡◌, sym, ap, ◌∙◌}
use native.Mathlib.Nat.{pow-succ'}
use native.Mathlib.Omega.{arith}
use borrow.Author.Tests.{ltb-true, ltb-false, lt-ltb, le-ltb, lt-leb, le-leb}
use lib.Dec.{ltb, leb, lit≤}
use lib.IntN.{ℤ, pos, negsuc, nat_abs}
use Rattle.mbus_rules.specs.Signs.{fits_signed}
use Rattle.base_numbers.specs.TwosComplement.{below_zero}
use Rattle.base_rules.proofs.Laws.Tests.{by_test}

pub limit_some : (w : ℕ) → 1 ≤ 100 ^ w
limit_some zero = lit≤ tt
limit_some (suc w) =
    let p : 100 ^ suc w ≡ 100 * 100 ^ w = pow-succ' 100 w in
    let r = limit_some w in
    omega arith

-- ten times a size is below a limit where the size is not over a tenth of what is below it
tenth : (l n : ℕ) → 1 ≤ l → ltb ((l - 1) / 10) n ≡ not (ltb (10 * n) l)
tenth l n h =
    by_test (ltb (10 * n) l) (λ e. le-ltb ((l - 1) / 10) n (room (ltb-true (10 * n) l e)) ∙ sym (ap not e))
    (λ e. lt-ltb ((l - 1) / 10) n (over (ltb-false (10 * n) l e)) ∙ sym (ap not e))
  where
    room : 10 * n < l → n ≤ (l - 1) / 10
    room k = omega arith

    over : l ≤ 10 * n → (l - 1) / 10 < n
    over k = omega arith

pub long_below : (w : ℕ) (z : ℤ) → below_zero z ≡ true → ltb ((100 ^ w - 1) / 10) (nat_abs z) ≡ not (fits_signed w z)
long_below w (pos n) e = absurd (false≢true e)
long_below w (negsuc n) e = tenth (100 ^ w) (suc n) (limit_some w)

pub long_above : (w : ℕ) (z : ℤ) → below_zero z ≡ false → leb (100 ^ w) (nat_abs z) ≡ not (fits_signed w z)
long_above w (pos n) e =
    by_test (ltb n (100 ^ w)) (λ t. lt-leb (100 ^ w) n (ltb-true n (100 ^ w) t) ∙ sym (ap not t))
    (λ t. le-leb (100 ^ w) n (ltb-false n (100 ^ w) t) ∙ sym (ap not t))
long_above w (negsuc n) e = absurd (true≢false e)
