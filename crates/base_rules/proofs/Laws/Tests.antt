-- What a test tells: laws that the proofs about all other definitions share.
use Prim.Native.Nat.{ℕ, zero, suc, ◌<◌}
use native.Mathlib.Nat.{not-suc-le-zero, eq-or-lt_of_le, le_of_suc-le-suc}
use native.Mathlib.Omega.{arith}
use mathlib.Core.Bool.{Bool, true, false, not, ◌&&◌, ◌||◌, true≢false, and-eq-true_iff}
use mathlib.Core.List.{List, [], ◌∷◌}
use mathlib.Core.Logic.{⊎_elim}
use mathlib.Core.Path.{◌≡◌, refl, sym, subst}
use lib.Dec.{eqb}
use lib.ListN.{length, get_or}
use borrow.Author.Tests.{eqb-true, not-false}
use Rattle.base_rules.specs.Lists.{any}
use Rattle.base_rules.specs.Answers.{Answer, reads, refuse}

pub by_test : {X : Type 0} (t : Bool) → (t ≡ true → X) → (t ≡ false → X) → X
by_test true f g = f refl
by_test false f g = g refl

pub neither : (a b : Bool) → a || b ≡ false → (a ≡ false) × (b ≡ false)
neither true b e = absurd (true≢false e)
neither false b e = (refl, e)

-- a test that refuses a difference does not refuse
pub not_different : (a b : ℕ) → not (eqb a b) ≡ false → a ≡ b
not_different a b e = eqb-true a b (not-false (eqb a b) e)

-- What is not refused has passed the first test and all that come after it.
pub passed : {A : Type 0} (n : ℕ) (test : Bool) (next : Answer A) (a : A) → refuse n test next ≡ reads a → (test ≡ false) × (next ≡ reads a)
passed n true next a e = let z : ◌≡◌ {A = ℕ} 0 1 = cc in absurd (omega arith)
passed n false next a e = (refl, e)

-- Where no element passes the test, the element at a place does not.
pub none_at : {A : Type 0} (test : A → Bool) (s : List A) (d : A) (i : ℕ) → any test s ≡ false → i < length s → test (get_or s i d) ≡ false
unfolding any
none_at test [] d i e h = absurd (not-suc-le-zero h)
none_at test (x ∷ s) d zero e h = (neither (test x) (any test s) e).0
none_at test (x ∷ s) d (suc i) e h = none_at test s d i (neither (test x) (any test s) e).1 (le_of_suc-le-suc h)

-- a test that is computed for every number below a bound, and what it tells of each
abbrev pub every_below : ℕ → (ℕ → Bool) → Bool
every_below zero test = true
every_below (suc n) test = test n && every_below n test

pub below : (n : ℕ) (test : ℕ → Bool) → every_below n test ≡ true → (k : ℕ) → k < n → test k ≡ true
below zero test all k h = absurd (not-suc-le-zero h)
below (suc n) test all k h =
    let both = (and-eq-true_iff (test n) (every_below n test)).0 all in
    ⊎_elim (λ e. subst (λ (m : ℕ). test m ≡ true) (sym e) both.0) (λ l. below n test both.1 k l) (eq-or-lt_of_le (le_of_suc-le-suc h))
