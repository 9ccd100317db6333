-- Laws of `specs/Walks`.
use Prim.Native.Nat.{ℕ, zero, suc, ◌+◌, ◌≤◌, ◌<◌, zero-le}
use mathlib.Core.Bool.{Bool, false, ◌||◌, or_assoc, or-false}
use mathlib.Core.List.{List, [], ◌∷◌, ◌++◌}
use mathlib.Core.Path.{◌≡◌, refl, sym, ap, ◌∙◌}
use native.Mathlib.Nat.{not-suc-le-zero}
use native.Mathlib.Numerals.{add-one}
use native.Mathlib.Omega.{arith}
use lib.ListN.{length, get_or, take, drop, drop_of_length-le}
use lib.Seq.{drop-cons}
use Rattle.base_rules.proofs.Laws.Tests.{neither}
use Rattle.bundle_check.specs.Walks.{some_wrong, end_of}

-- Laws: where no element fails, each passes in the state that the ones before it left.
pub none_wrong : {S A : Type 0} (wrong : S → A → Bool) (next : S → A → S) (s : S) (l : List A) (i : ℕ) (d : A)
    → some_wrong wrong next s l ≡ false → i < length l → wrong (end_of next s (take i l)) (get_or l i d) ≡ false
unfolding some_wrong end_of
none_wrong wrong next s [] i d e h = absurd (not-suc-le-zero h)
none_wrong wrong next s (x ∷ l) zero d e h = (neither (wrong s x) (some_wrong wrong next (next s x) l) e).0
none_wrong wrong next s (x ∷ l) (suc i) d e h =
    none_wrong wrong next (next s x) l i d (neither (wrong s x) (some_wrong wrong next (next s x) l) e).1 (omega arith)

-- A loop that walks: what was found so far, or is still to be found, is what there is, and the walk still ends where it does.
pub record StateWalked {S A : Type 0} (wrong : S → A → Bool) (next : S → A → S) (l : List A) (s₀ : S) (i : ℕ) (s : S) (found : Bool) : Type 0 where
  pub inside : i ≤ length l
  pub so : (found || some_wrong wrong next s (drop i l)) ≡ some_wrong wrong next s₀ l
  pub ends : end_of next s (drop i l) ≡ end_of next s₀ l

module _ {S A : Type 0} {wrong : S → A → Bool} {next : S → A → S} {l : List A} {s₀ : S} where
  pub walked_none : StateWalked wrong next l s₀ 0 s₀ false
  walked_none = record { inside = zero-le; so = refl; ends = refl }

  pub walked_next : {i : ℕ} {s : S} {found : Bool} (d : A)
      → StateWalked wrong next l s₀ i s found → i < length l
      → StateWalked wrong next l s₀ (i + 1) (next s (get_or l i d)) (found || wrong s (get_or l i d))
  unfolding some_wrong end_of
  walked_next {i} {s} {found} d g h = record {
    inside = omega arith;
    so =
        or_assoc found (wrong s (get_or l i d)) (some_wrong wrong next (next s (get_or l i d)) (drop (i + 1) l))
        ∙ ap (λ (b : Bool). found || b) (rw add-one (ap (some_wrong wrong next s) (sym (drop-cons l i d h)))) ∙ g.so;
    ends = rw add-one (ap (end_of next s) (sym (drop-cons l i d h))) ∙ g.ends;
  }

  pub walked_found : {i : ℕ} {s : S} {found : Bool} → StateWalked wrong next l s₀ i s found → length l ≤ i → found ≡ some_wrong wrong next s₀ l
  unfolding some_wrong
  walked_found {i} {s} {found} g h =
      sym (or-false found) ∙ ap (λ (r : List A). found || some_wrong wrong next s r) (sym (drop_of_length-le l h)) ∙ g.so

  pub walked_end : {i : ℕ} {s : S} {found : Bool} → StateWalked wrong next l s₀ i s found → length l ≤ i → s ≡ end_of next s₀ l
  unfolding end_of
  walked_end {i} {s} {found} g h = ap (end_of next s) (sym (drop_of_length-le l h)) ∙ g.ends

-- a walk along one list behind another
module _ {S A : Type 0} (wrong : S → A → Bool) (next : S → A → S) where
  pub some_append : (s : S) (l m : List A) → some_wrong wrong next s (l ++ m) ≡ (some_wrong wrong next s l || some_wrong wrong next (end_of next s l) m)
  unfolding some_wrong end_of
  some_append s [] m = refl
  some_append s (x ∷ l) m =
      rw (some_append (next s x) l m)
      (sym (or_assoc (wrong s x) (some_wrong wrong next (next s x) l) (some_wrong wrong next (end_of next (next s x) l) m)))
