-- Digits put into bytes one after the other: what is put so far, and the digits that are left.
use Rattle.std.proofs.Common.{◌≡◌, ℕ, suc, ◌+◌, ◌-◌, ◌*◌, ◌/◌, ◌%◌, ◌<◌, ◌≤◌, List, [], ◌∷◌, ◌++◌, length, take, set, replicate, sym, ap, ◌∙◌, append_assoc, append-nil, arith, length-set, take-suc-set, take_all}
use native.Mathlib.Numerals.{add-one}
use lib.ListN.{length-replicate}
use Rattle.base_digits.specs.Digits.{packed}

pub record Packing (size n : ℕ) (bytes : List ℕ) (i rest : ℕ) : Type 0 where
  pub held : length bytes ≡ size
  pub so : take i bytes ++ packed (size - i) rest ≡ packed size n

pub packing_none : (size n : ℕ) → Packing size n (replicate size 0) 0 n
packing_none size n = record { held = length-replicate size 0; so = ap (λ (k : ℕ). packed k n) (omega arith) }

module _ {size n : ℕ} {bytes : List ℕ} {i rest : ℕ} (p : Packing size n bytes i rest) where
  pub packing_next : i < size → {x : ℕ} → x ≡ 16 * (rest / 10 % 10) + rest % 10 → Packing size n (set bytes i x) (i + 1) (rest / 100)
  unfolding packed
  packing_next h {x} e =
      let left : size - i ≡ suc (size - (i + 1)) = omega arith in
      let put : take (i + 1) (set bytes i x) ≡ take i bytes ++ (x ∷ []) = rw add-one (take-suc-set bytes i x (omega (arith, p.held))) in
      record {
        held = length-set bytes i x ∙ p.held;
        so =
            ap (λ (s : List ℕ). s ++ packed (size - (i + 1)) (rest / 100)) put
            ∙ append_assoc (take i bytes) (x ∷ []) (packed (size - (i + 1)) (rest / 100))
            ∙ ap (λ (y : ℕ). take i bytes ++ (y ∷ packed (size - (i + 1)) (rest / 100))) e
            ∙ ap (λ (k : ℕ). take i bytes ++ packed k rest) (sym left)
            ∙ p.so;
      }

  pub packing_all : size ≤ i → bytes ≡ packed size n
  unfolding packed
  packing_all h =
      let none : size - i ≡ 0 = omega arith in
      sym (append-nil bytes)
      ∙ ap (λ (s : List ℕ). s ++ []) (sym (take_all i bytes (omega (arith, p.held))))
      ∙ ap (λ (k : ℕ). take i bytes ++ packed k rest) (sym none)
      ∙ p.so
