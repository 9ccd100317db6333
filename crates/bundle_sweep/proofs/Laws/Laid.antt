-- Laws of bytes laid at two places of one list.
use Prim.Native.Nat.{ℕ, ◌+◌, ◌-◌, ◌≤◌, zero-le}
use mathlib.Core.List.{List, ◌++◌, append_assoc}
use mathlib.Core.Path.{◌≡◌, sym, ap, ap₂, ◌∙◌}
use native.Mathlib.Omega.{arith}
use lib.ListN.{length, take, drop, length-drop, take-append-drop}
use lib.Seq.{take_at, drop_at, length-take-le, take-append-le, drop-append-le}
use Rattle.base_lent.specs.Copying.{laid}
use Rattle.base_lent.proofs.Laws.Copying.{laid_length, laid_on, laid_behind}

module _ {A : Type 0} where
  -- what is laid in front of a list changes nothing of what stands behind
  pub laid_append : (x y : List A) (at : ℕ) (s : List A) → at + length s ≤ length x → laid (x ++ y) at s ≡ laid x at s ++ y
  laid_append x y at s h =
      let part : length (drop at x) ≡ length x - at = length-drop at x in
      ap₂ (λ (l m : List A). l ++ (s ++ m)) (take-append-le at x y (omega arith))
      (ap (drop (length s)) (drop-append-le at x y (omega arith)) ∙ drop-append-le (length s) (drop at x) y (omega arith))
      ∙ ap (λ (l : List A). take at x ++ l) (sym (append_assoc s (drop (length s) (drop at x)) y))
      ∙ sym (append_assoc (take at x) (s ++ drop (length s) (drop at x)) y)

  module _ (d : List A) (at : ℕ) (s : List A) (p : ℕ) (h : at + length s ≤ p) (k : p ≤ length d) where
    cut : laid d at s ≡ laid (take p d) at s ++ drop p d
    cut =
        ap (λ (l : List A). laid l at s) (sym (take-append-drop p d)) ∙ laid_append (take p d) (drop p d) at s (omega (arith, length-take-le p d k))

    size : length (laid (take p d) at s) ≡ p
    size = laid_length (take p d) s at (omega (arith, length-take-le p d k)) ∙ length-take-le p d k

    pub laid_past : drop p (laid d at s) ≡ drop p d
    laid_past = ap (drop p) cut ∙ drop_at (laid (take p d) at s) (drop p d) p size

    pub laid_taken : take p (laid d at s) ≡ laid (take p d) at s
    laid_taken = ap (take p) cut ∙ take_at (laid (take p d) at s) (drop p d) p size

    -- the order of two places does not matter
    pub laid_apart : (t : List A) → laid (laid d at s) p t ≡ laid (laid d p t) at s
    laid_apart t =
        ap₂ (λ (l m : List A). l ++ (t ++ drop (length t) m)) laid_taken laid_past
        ∙ sym (laid_append (take p d) (t ++ drop (length t) (drop p d)) at s (omega (arith, length-take-le p d k)))

  -- what stands before a place that is laid over
  pub laid_before : (d : List A) (at : ℕ) (s : List A) (p : ℕ) → p ≤ at → at ≤ length d → take p (laid d at s) ≡ take p d
  laid_before d at s p h k =
      take-append-le p (take at d) (s ++ drop (length s) (drop at d)) (omega (arith, length-take-le at d k))
      ∙ sym (ap (take p) (sym (take-append-drop at d)) ∙ take-append-le p (take at d) (drop at d) (omega (arith, length-take-le at d k)))

  -- as many bytes laid over others
  pub laid_over : (d : List A) (at : ℕ) (s t : List A) → length s ≡ length t → at + length s ≤ length d → laid (laid d at s) at t ≡ laid d at t
  laid_over d at s t e h =
      let same : laid d at t ≡ take at d ++ t ++ drop (at + length t) d = laid_behind d at t in
      let past : drop (at + length t) (laid d at s) ≡ drop (at + length t) d = laid_past d at s (at + length t) (omega arith) (omega arith) in
      laid_behind (laid d at s) at t
      ∙ ap₂ (λ (l m : List A). l ++ t ++ m) (laid_before d at s at (omega arith) (omega arith)) past ∙ sym same

  -- two bytes of a count, and what stands behind them
  pub laid_in_front : (d : List A) (k : ℕ) (c s : List A) → length c ≡ k → k ≤ length d → laid (laid d k s) 0 c ≡ laid d 0 (c ++ s)
  laid_in_front d k c s e h =
      let place : k ≡ 0 + length c = omega arith in
      sym (laid_apart d 0 c k (omega arith) h s) ∙ ap (λ (n : ℕ). laid (laid d 0 c) n s) place ∙ laid_on d 0 c s zero-le
