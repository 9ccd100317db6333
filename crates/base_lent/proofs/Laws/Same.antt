-- Laws of `specs/Same`.
use Prim.Native.Nat.{ℕ, ◌+◌, ◌≤◌, ◌<◌, zero-le}
use mathlib.Core.Bool.{Bool, true, false, ◌&&◌, true≢false, and-eq-true_iff, and-true, and_assoc}
use mathlib.Core.List.{List, [], ◌∷◌, ◌++◌}
use mathlib.Core.Path.{◌≡◌, refl, sym, ap, ap₂, ◌∙◌}
use native.Mathlib.Numerals.{add-one}
use native.Mathlib.Omega.{arith}
use borrow.Author.Tests.{eqb-true, eq-eqb}
use lib.Dec.{eqb}
use lib.ListN.{length, get_or, take}
use lib.Seq.{take-suc, take_all, length-take-le}
use Rattle.base_rules.proofs.Laws.Tests.{by_test}
use Rattle.base_lent.specs.Same.{same}

pub same_equal : (s t : List ℕ) → same s t ≡ true → s ≡ t
unfolding same
same_equal [] [] e = refl
same_equal [] (y ∷ t) e = absurd (true≢false (sym e))
same_equal (x ∷ s) [] e = absurd (true≢false (sym e))
same_equal (x ∷ s) (y ∷ t) e =
    let both = (and-eq-true_iff (eqb x y) (same s t)).0 e in
    ap₂ (λ (a : ℕ) (l : List ℕ). a ∷ l) (eqb-true x y both.0) (same_equal s t both.1)

pub same_itself : (s : List ℕ) → same s s ≡ true
unfolding same
same_itself [] = refl
same_itself (x ∷ s) = rw (eq-eqb x x refl) (same_itself s)

pub same_not : (s t : List ℕ) → (s ≡ t → ⊥) → same s t ≡ false
same_not s t f = by_test (same s t) (λ e. absurd (f (same_equal s t e))) (λ e. e)

same_last : (s t : List ℕ) (x y : ℕ) → length s ≡ length t → same (s ++ (x ∷ [])) (t ++ (y ∷ [])) ≡ (same s t && eqb x y)
unfolding same
same_last [] [] x y e = and-true (eqb x y)
same_last [] (b ∷ t) x y e = absurd (omega (arith, e))
same_last (a ∷ s) [] x y e = absurd (omega (arith, e))
same_last (a ∷ s) (b ∷ t) x y e = ap (λ (r : Bool). eqb a b && r) (same_last s t x y (omega (arith, e))) ∙ sym (and_assoc (eqb a b) (same s t) (eqb x y))

-- A loop over two lists of one length: whether they are alike so far.
pub record Alike (s t : List ℕ) (i : ℕ) (alike : Bool) : Type 0 where
  pub places : length s ≡ length t
  pub inside : i ≤ length s
  pub so : alike ≡ same (take i s) (take i t)

pub alike_none : {s t : List ℕ} → length s ≡ length t → Alike s t 0 true
unfolding same
alike_none e = record { places = e; inside = zero-le; so = refl }

pub alike_next : {s t : List ℕ} {i : ℕ} {alike : Bool} → Alike s t i alike → i < length s → Alike s t (i + 1) (alike && eqb (get_or s i 0) (get_or t i 0))
alike_next {s} {t} {i} {alike} g h =
    let places : length s ≡ length t = g.places in
    let level : length (take i s) ≡ length (take i t) = length-take-le i s (omega arith) ∙ sym (length-take-le i t (omega arith)) in
    record {
      places = places;
      inside = omega arith;
      so =
          rw add-one
          (ap (λ (r : Bool). r && eqb (get_or s i 0) (get_or t i 0)) g.so
          ∙ sym (same_last (take i s) (take i t) (get_or s i 0) (get_or t i 0) level)
          ∙ sym (ap₂ same (take-suc s i 0 h) (take-suc t i 0 (omega arith))));
    }

pub alike_all : {s t : List ℕ} {i : ℕ} {alike : Bool} → Alike s t i alike → length s ≤ i → alike ≡ same s t
alike_all {s} {t} {i} g h = g.so ∙ ap₂ same (take_all i s h) (take_all i t (omega (arith, g.places)))

pub differ_length : (s t : List ℕ) → (length s ≡ length t → ⊥) → false ≡ same s t
differ_length s t f = sym (same_not s t (λ e. f (ap length e)))
