-- What the code leans on: walks over the entries of a template, where what is left gives the whole answer, and the test for 71.
use Prim.Native.Nat.{ℕ, suc, ◌+◌, ◌-◌, ◌≤◌, ◌<◌}
use mathlib.Core.Bool.{Bool, true, false, ◌||◌}
use Rattle.std.specs.List.{list_any}
use Rattle.base_rules.specs.Lists.{any}
use mathlib.Core.List.{List, [], ◌∷◌, ◌++◌, map, append-nil}
use mathlib.Core.Path.{◌≡◌, refl, sym, ap, ap₂, ◌∙◌}
use native.Mathlib.Numerals.{add-one}
use native.Mathlib.Omega.{arith}
use borrow.Author.Tests.{lt-ltb, le-ltb, ltb-true, ltb-false}
use lib.Dec.{ltb}
use lib.ListN.{length, get_or, take, drop, set, length-set, drop_of_length-le}
use lib.Seq.{drop-cons, take_all, take-suc-set, drop-set-lt, append_snoc}
use Rattle.mbus_rules.specs.declared.Entry.{Entry}
use Rattle.meter_template.specs.Templates.{holds, value_count, total_in, total_most, passes}

module _ (q : ℕ) (es : List Entry) (i : ℕ) (d : Entry) (h : i < length es) where
  pub total_here : holds q (get_or es i d) ≡ true → total_in q (drop i es) ≡ value_count (get_or es i d).value
  unfolding total_in
  total_here e = rw (drop-cons es i d h, e)

  pub total_next : holds q (get_or es i d) ≡ false → total_in q (drop (i + 1) es) ≡ total_in q (drop i es)
  unfolding total_in
  total_next e = rw (add-one, drop-cons es i d h, e)

pub total_none : (q : ℕ) (es : List Entry) (i : ℕ) → length es ≤ i → total_in q (drop i es) ≡ 0
unfolding total_in
total_none q es i h = rw (drop_of_length-le es h)

-- A list whose elements before a place are done: the done ones, and what becomes of the others.
abbrev pub done_from : {A : Type 0} → (A → A) → ℕ → List A → List A
done_from f i s = take i s ++ map f (drop i s)

pub record Redone {A : Type 0} (f : A → A) (s₀ : List A) (i : ℕ) (s : List A) : Type 0 where
  pub long : length s ≡ length s₀
  pub so : done_from f i s ≡ map f s₀

pub redone_none : {A : Type 0} {f : A → A} {s : List A} → Redone f s 0 s
redone_none = record { long = refl; so = refl }

pub redone_next : {A : Type 0} {f : A → A} {s₀ : List A} {i : ℕ} {s : List A} (d : A)
    → Redone f s₀ i s → i < length s₀ → Redone f s₀ (i + 1) (set s i (f (get_or s i d)))
redone_next {f = f} {s₀} {i} {s} d g h =
    let inside : i < length s = rw g.long h in
    let x = f (get_or s i d) in
    record {
      long = length-set s i x ∙ g.long;
      so =
          rw (add-one, take-suc-set s i x inside, drop-set-lt (suc i) s i x (omega arith), append_snoc (take i s) x (map f (drop (suc i) s)))
          (ap (λ (l : List _). take i s ++ map f l) (sym (drop-cons s i d inside)) ∙ g.so);
    }

pub redone_all : {A : Type 0} {f : A → A} {s₀ : List A} {i : ℕ} {s : List A} → Redone f s₀ i s → length s₀ ≤ i → s ≡ map f s₀
redone_all {f = f} {s₀} {i} {s} g h =
    let past : length s ≤ i = rw g.long h in
    sym (append-nil s) ∙ ap₂ (λ (a b : List _). a ++ map f b) (sym (take_all i s past)) (sym (drop_of_length-le s past)) ∙ g.so

-- the test for 71, and by what is left below the limit
pub pass_fits : (total amount : ℕ) → passes total amount ≡ false → total + amount ≤ total_most
pass_fits total amount e = ltb-false total_most (total + amount) e

pub sum_passes : (total amount : ℕ) → total ≤ total_most → ltb (total_most - total) amount ≡ passes total amount
sum_passes total amount h = go (ltb (total_most - total) amount) refl
  where
    go : (b : Bool) → ltb (total_most - total) amount ≡ b → b ≡ passes total amount
    go true e = sym (lt-ltb total_most (total + amount) (omega (arith, ltb-true (total_most - total) amount e)))
    go false e = sym (le-ltb total_most (total + amount) (omega (arith, ltb-false (total_most - total) amount e)))

-- whether some element passes the test, as the library says it
pub some_listed : {A : Type 0} (test : A → Bool) (s : List A) → list_any test s ≡ any test s
unfolding any
some_listed test [] = refl
some_listed test (x ∷ s) = ap (λ (b : Bool). test x || b) (some_listed test s)
