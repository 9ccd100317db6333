-- Laws of the elements that fail a test.
use Prim.Native.Nat.{◌≤◌, zero-le}
use mathlib.Core.Bool.{Bool, false}
use mathlib.Core.List.{List, [], ◌∷◌, ◌++◌, map}
use mathlib.Core.Path.{◌≡◌, refl}
use native.Mathlib.Omega.{arith}
use lib.ListN.{length}
use Rattle.base_rules.specs.Lists.{any}
use Rattle.base_rules.proofs.Laws.Tests.{by_test, neither}
use Rattle.bundle_sweep.specs.Sweeping.{without}

module _ {A : Type 0} (test : A → Bool) where
  pub without_few : (l : List A) → length (without test l) ≤ length l
  unfolding without
  without_few [] = zero-le
  without_few (x ∷ l) = by_test (test x) (λ e. rw e (omega (arith, without_few l))) (λ e. rw e (omega (arith, without_few l)))

  pub without_append : (l m : List A) → without test (l ++ m) ≡ without test l ++ without test m
  unfolding without
  without_append [] m = refl
  without_append (x ∷ l) m = by_test (test x) (λ e. rw (e, without_append l m)) (λ e. rw (e, without_append l m))

  -- none of those that are left passes it, and where none does all are left
  pub without_none : (l : List A) → any test (without test l) ≡ false
  unfolding without any
  without_none [] = refl
  without_none (x ∷ l) = by_test (test x) (λ e. rw e (without_none l)) (λ e. rw (e, e) (without_none l))

  pub without_all : (l : List A) → any test l ≡ false → without test l ≡ l
  unfolding without any
  without_all [] e = refl
  without_all (x ∷ l) e = let p = neither (test x) (any test l) e in rw (p.0, without_all l p.1)

pub without_map : {A B : Type 0} (test : B → Bool) (f : A → B) (l : List A) → map f (without (λ (x : A). test (f x)) l) ≡ without test (map f l)
unfolding without
without_map test f [] = refl
without_map test f (x ∷ l) = by_test (test (f x)) (λ e. rw e (without_map test f l)) (λ e. rw (e, without_map test f l))
