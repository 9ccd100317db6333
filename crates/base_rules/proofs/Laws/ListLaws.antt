-- Laws about `at`, `any` and `total`, as loops over a list use them.
use Prim.Native.Nat.{ℕ, zero, suc, ◌+◌, ◌-◌, ◌≤◌, ◌<◌, zero-le}
use mathlib.Core.Bool.{Bool, false, ◌||◌, or_assoc, or-false}
use mathlib.Core.List.{List, [], ◌∷◌, ◌++◌, map}
use mathlib.Core.Path.{◌≡◌, refl, sym, ap, ◌∙◌}
use native.Mathlib.Numerals.{add-one}
use lib.ListN.{length, get_or, take, drop, drop_of_length-le}
use lib.Seq.{drop-cons, take-nil}
use native.Mathlib.Nat.{sub-zero, suc-sub-suc, zero-sub}
use native.Mathlib.Omega.{arith}
use Rattle.base_rules.specs.Lists.{any}
use Prim.Native.Nat.{ℕ, ◌-◌}
use mathlib.Core.List.{List}
use mathlib.Core.Path.{◌≡◌}
use lib.ListN.{length, take, drop, length-drop}
use lib.Seq.{take_all}
use Prim.Native.Nat.{ℕ, zero, suc, ◌-◌, ◌<◌}
use mathlib.Core.List.{List, [], ◌∷◌}
use mathlib.Core.Path.{◌≡◌, refl}
use lib.ListN.{length, get_or}

-- A loop that gathers: what was found so far, or is still to be found, is what there is.
pub record Gathered {A : Type 0} (test : A → Bool) (s : List A) (i : ℕ) (found : Bool) : Type 0 where
  pub inside : i ≤ length s
  pub so : (found || any test (drop i s)) ≡ any test s

pub gathered_none : {A : Type 0} {test : A → Bool} {s : List A} → Gathered test s 0 false
gathered_none = record { inside = zero-le; so = refl }

pub gathered_next : {A : Type 0} {test : A → Bool} {s : List A} {i : ℕ} {found : Bool} (d : A)
    → Gathered test s i found → i < length s → Gathered test s (i + 1) (found || test (get_or s i d))
unfolding any
gathered_next {test = test} {s} {i} {found} d g h = record {
  inside = omega arith;
  so =
      or_assoc found (test (get_or s i d)) (any test (drop (i + 1) s))
      ∙ ap (λ (l : Bool). found || l) (rw add-one (ap (any test) (sym (drop-cons s i d h)))) ∙ g.so;
}

pub gathered_all : {A : Type 0} {test : A → Bool} {s : List A} {i : ℕ} {found : Bool} → Gathered test s i found → length s ≤ i → found ≡ any test s
unfolding any
gathered_all {test = test} {s} {i} {found} g h = sym (or-false found) ∙ ap (λ (l : List _). found || any test l) (sym (drop_of_length-le s h)) ∙ g.so

-- the rest of a beginning
pub drop_take : (a m : ℕ) (s : List ℕ) → drop a (take m s) ≡ take (m - a) (drop a s)
drop_take zero m s = rw sub-zero
drop_take (suc a) zero s = rw zero-sub
drop_take (suc a) (suc m) [] = sym (take-nil (suc m - suc a))
drop_take (suc a) (suc m) (x ∷ s) = rw suc-sub-suc (drop_take a m s)

-- the byte at a place of a line is the byte of the character there
pub map_drop : {A B : Type 0} (f : A → B) (i : ℕ) (s : List A) → map f (drop i s) ≡ drop i (map f s)
map_drop f zero s = refl
map_drop f (suc i) [] = refl
map_drop f (suc i) (x ∷ s) = map_drop f i s

pub map_take : {A B : Type 0} (f : A → B) (i : ℕ) (s : List A) → map f (take i s) ≡ take i (map f s)
map_take f zero s = refl
map_take f (suc i) [] = refl
map_take f (suc i) (x ∷ s) = ap (λ (l : List _). f x ∷ l) (map_take f i s)

pub any_map : {A B : Type 0} (test : B → Bool) (f : A → B) (s : List A) → any (λ (x : A). test (f x)) s ≡ any test (map f s)
unfolding any
any_map test f [] = refl
any_map test f (x ∷ s) = ap (λ (found : Bool). test (f x) || found) (any_map test f s)

pub any_snoc : {A : Type 0} (test : A → Bool) (s : List A) (x : A) → any test (s ++ (x ∷ [])) ≡ (any test s || test x)
unfolding any
any_snoc test [] x = or-false (test x)
any_snoc test (y ∷ s) x = ap (λ (found : Bool). test y || found) (any_snoc test s x) ∙ sym (or_assoc (test y) (any test s) (test x))

pub any_append : {A : Type 0} (test : A → Bool) (l m : List A) → any test (l ++ m) ≡ (any test l || any test m)
unfolding any
any_append test [] m = refl
any_append test (x ∷ l) m = rw (any_append test l m) (sym (or_assoc (test x) (any test l) (any test m)))

-- the bytes from a place on, as the code cuts them out
pub rest_is : (s : List ℕ) (n : ℕ) → take (length s - n) (drop n s) ≡ drop n s
rest_is s n = take_all (length s - n) (drop n s) (omega (arith, length-drop n s))

-- what would stand past the end is nothing to a place before it
pub get_d_inside : {A : Type 0} (l : List A) (i : ℕ) (d e : A) → i < length l → get_or l i d ≡ get_or l i e
get_d_inside [] i d e h = absurd (omega arith)
get_d_inside (x ∷ l) zero d e h = refl
get_d_inside (x ∷ l) (suc i) d e h = get_d_inside l i d e (omega arith)
