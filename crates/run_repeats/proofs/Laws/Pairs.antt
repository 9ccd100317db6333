-- Characters that come as bytes, two per character: the first of them, and that bytes give the same characters only where they are the same.
use Prim.Native.Nat.{ℕ, zero, suc, ◌+◌, ◌*◌, ◌/◌, ◌%◌}
use mathlib.Core.List.{List, [], ◌∷◌}
use mathlib.Core.Path.{◌≡◌, refl, sym, ap, ap₂}
use native.Mathlib.Omega.{arith}
use lib.ListN.{length, take}
use lib.Seq.{take-nil}
use Rattle.base_rules.specs.Bytes.{Bytes}
use Rattle.base_characters.specs.Characters.{chars}

pub chars_take : (b : List ℕ) (n : ℕ) → chars (take n b) ≡ take (n / 2) (chars b)
unfolding chars
chars_take b zero = refl
chars_take [] (suc zero) = refl
chars_take (x ∷ b) (suc zero) = refl
chars_take [] (suc (suc n)) = sym (take-nil (suc (suc n) / 2))
chars_take (x ∷ []) (suc (suc n)) = sym (take-nil (suc (suc n) / 2))
chars_take (x ∷ (y ∷ b)) (suc (suc n)) =
    let half : suc (suc n) / 2 ≡ suc (n / 2) = omega arith in
    rw (half, chars_take b n)

pub chars_same : (s t : List ℕ) → Bytes s → Bytes t → length s % 2 ≡ 0 → length t % 2 ≡ 0 → chars s ≡ chars t → s ≡ t
unfolding chars
chars_same [] [] b c m n e = refl
chars_same [] (z ∷ []) b c m n e = absurd (omega arith)
chars_same [] (z ∷ (w ∷ t)) b c m n e = let none = ap length e in absurd (omega arith)
chars_same (x ∷ []) t b c m n e = absurd (omega arith)
chars_same (x ∷ (y ∷ s)) [] b c m n e = let none = ap length e in absurd (omega arith)
chars_same (x ∷ (y ∷ s)) (z ∷ []) b c m n e = absurd (omega arith)
chars_same (x ∷ (y ∷ s)) (z ∷ (w ∷ t)) b c m n e =
    let head : x + 256 * y ≡ z + 256 * w = cc in
    let rest : chars s ≡ chars t = cc in
    let low : x ≡ z = omega (arith, b.0, c.0) in
    let high : y ≡ w = omega (arith, b.0, c.0) in
    ap₂ (λ (p : ℕ) (l : List ℕ). p ∷ l) low
    (ap₂ (λ (p : ℕ) (l : List ℕ). p ∷ l) high (chars_same s t b.1.1 c.1.1 (omega arith) (omega arith) rest))
