-- Lists of rows: what holds of all, windows, and parts laid one behind the other.
use Prim.Native.Nat.{ℕ, ◌+◌, ◌-◌, ◌≤◌}
use mathlib.Core.List.{List, [], ◌∷◌, ◌++◌, append_assoc}
use mathlib.Core.Path.{◌≡◌, ap, ap₂, ◌∙◌}
use native.Mathlib.Omega.{arith}
use lib.ListN.{length, take, drop, length-append}
use lib.Seq.{take-take}
use Rattle.base_lent.specs.Copying.{laid}
use Rattle.base_lent.proofs.Laws.Copying.{laid_on}
use Rattle.bundle_rows.specs.Lists.{All}
use Rattle.base_rules.proofs.Laws.ListLaws.{drop_take}

module _ {A : Type 0} where
  pub all_append : (P : A → Type 0) (l m : List A) → All P l → All P m → All P (l ++ m)
  all_append P [] m p q = q
  all_append P (x ∷ l) m p q = (p.0, all_append P l m p.1 q)

pub window : (a c m : ℕ) (s : List ℕ) → a + c ≤ m → take c (drop a (take m s)) ≡ take c (drop a s)
window a c m s h = rw (drop_take a m s) (take-take c (m - a) (drop a s) (omega arith))

-- ---- parts laid one behind the other

module _ (d : List ℕ) (at k : ℕ) (x y : List ℕ) (h : at ≤ length d) (e : k ≡ at + length x) {a b : List ℕ} (ea : a ≡ laid d at x) (eb : b ≡ laid a k y) where
  pub laid_two : b ≡ laid d at (x ++ y)
  laid_two = eb ∙ ap₂ (λ (l : List ℕ) (n : ℕ). laid l n y) ea e ∙ laid_on d at x y h

pub laid_three : (d : List ℕ) (at k m : ℕ) (x y z : List ℕ) {a b c : List ℕ} → at ≤ length d → k ≡ at + length x → m ≡ k + length y → a ≡ laid d at x
    → b ≡ laid a k y → c ≡ laid b m z → c ≡ laid d at (x ++ (y ++ z))
laid_three d at k m x y z h e f ea eb ec =
    let behind : m ≡ at + length (x ++ y) = omega (arith, length-append x y) in
    laid_two d at m (x ++ y) z h behind (laid_two d at k x y h e ea eb) ec ∙ ap (laid d at) (append_assoc x y z)
