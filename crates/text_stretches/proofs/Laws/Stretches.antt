-- Laws of texts that are put by stretches.
use Prim.Native.Nat.{ℕ, ◌+◌, ◌/◌, ◌≤◌, ◌<◌}
use mathlib.Core.List.{List, ◌++◌, append_assoc}
use mathlib.Core.Path.{◌≡◌, ap, ◌∙◌}
use native.Mathlib.Omega.{arith}
use lib.ListN.{length, length-append}
use Rattle.text_filling.specs.Decimals.{last_digit, digits_in, digits}
use Rattle.text_filling.proofs.Laws.DecimalLaws.{digits_next}

-- two numbers between three texts
pub joined : (a m b rest : List ℕ) → (a ++ (m ++ b)) ++ rest ≡ a ++ (m ++ (b ++ rest))
joined a m b rest = append_assoc a (m ++ b) rest ∙ ap (λ (l : List ℕ). a ++ l) (append_assoc m b rest)

-- ---- the digits of a number, one by one
pub digits_less : (n : ℕ) → 0 < n → length (digits n) ≡ length (digits (n / 10)) + 1
digits_less n h = ap length (digits_next n h) ∙ length-append (digits (n / 10)) (last_digit n)

pub digits_end : (n : ℕ) → n ≤ 0 → length (digits n) ≡ 0
unfolding digits_in
digits_end n h = let none : n ≡ 0 = omega arith in rw none
