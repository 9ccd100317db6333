-- The sum of bytes, as the library words it.
use Prim.Native.Nat.{ℕ, suc, ◌+◌, ◌*◌, ◌≤◌, ◌<◌, zero-le}
use mathlib.Core.List.{List, [], ◌∷◌}
use mathlib.Core.Path.{◌≡◌, refl, ap, ◌∙◌}
use native.Mathlib.Omega.{arith}
use lib.ListN.{length, get_or}
use Rattle.std.specs.List.{sum}
use Rattle.std.proofs.lemmas.List.Sums.{sum_by-cons}
use Rattle.base_rules.specs.Lists.{total}

pub sum_total : (s : List ℕ) → sum s ≡ total s
unfolding total
sum_total [] = refl
sum_total (x ∷ s) = sum_by-cons (λ (y : ℕ). y) x s ∙ ap (λ (n : ℕ). x + n) (sum_total s)

-- no sum of bytes is larger
pub total_most : (s : List ℕ) → ((i : ℕ) → get_or s i 0 < 256) → total s ≤ 255 * length s
unfolding total
total_most [] b = zero-le
total_most (x ∷ s) b =
    let first : x < 256 = b 0 in
    let rest : total s ≤ 255 * length s = total_most s (λ i. b (suc i)) in
    omega arith
