-- What a chain of tests tells of each test in it.
use Prim.Native.Nat.{ℕ}
use mathlib.Core.Bool.{Bool, true, false, cond, ◌&&◌, ◌||◌, false≢true}
use mathlib.Core.List.{List, [], ◌∷◌}
use native.Mathlib.Omega.{arith}
use mathlib.Core.Path.{◌≡◌, refl}
use Rattle.base_rules.specs.Answers.{Answer, reads, refusal, refuse, within}
use Rattle.base_rules.proofs.Laws.Tests.{neither, passed}
use Rattle.base_rules.proofs.Laws.AnswerLaws.{reads_same}

-- no test of the list holds
abbrev pub None : List Bool → Type 0
None [] = Unit {0}
None (t ∷ ts) = (t ≡ false) × None ts

-- every test of the list holds
abbrev pub Every : List Bool → Type 0
Every [] = Unit {0}
Every (t ∷ ts) = (t ≡ true) × Every ts

-- `t || u || ..`, as it is bracketed
abbrev pub either : Bool → List Bool → Bool
either t [] = t
either t (u ∷ ts) = either (t || u) ts

-- `t && u && ..`, as it is bracketed
abbrev pub both : Bool → List Bool → Bool
both t [] = t
both t (u ∷ ts) = both (t && u) ts

pub and_true_parts : (t u : Bool) → (t && u) ≡ true → (t ≡ true) × (u ≡ true)
and_true_parts true u e = (refl, e)
and_true_parts false u e = absurd (false≢true e)

-- a joined test that fails, and one that holds
pub none : (t : Bool) (ts : List Bool) → either t ts ≡ false → None (t ∷ ts)
none t [] e = (e, tt)
none t (u ∷ ts) e =
    let h : None ((t || u) ∷ ts) = none (t || u) ts e in
    let p : (t ≡ false) × (u ≡ false) = neither t u h.0 in
    (p.0, (p.1, h.1))

pub every : (t : Bool) (ts : List Bool) → both t ts ≡ true → Every (t ∷ ts)
every t [] e = (e, tt)
every t (u ∷ ts) e =
    let h : Every ((t && u) ∷ ts) = every (t && u) ts e in
    let p : (t ≡ true) × (u ≡ true) = and_true_parts t u h.0 in
    (p.0, (p.1, h.1))

-- what holds of both answers holds of the one picked
pub picked : {A : Type 0} (P : A → Type 0) (t : Bool) (a b : A) → P a → P b → P (cond t a b)
picked P true a b h k = h
picked P false a b h k = k

-- a chain of refusals, each a number and its test
abbrev pub refusals : {A : Type 0} → List (ℕ × Bool) → Answer A → Answer A
refusals [] next = next
refusals (r ∷ rs) next = refuse r.0 r.1 (refusals rs next)

abbrev pub Passes : List (ℕ × Bool) → Type 0
Passes [] = Unit {0}
Passes (r ∷ rs) = (r.1 ≡ false) × Passes rs

pub not_refused : {A : Type 0} {a : A} {n : ℕ} → refusal n ≡ reads a → ⊥
not_refused e = let z : ◌≡◌ {A = ℕ} 0 1 = cc in omega arith

pub within_reads : {A B : Type 0} {b : B} (f : A → B) (x : Answer A) → within f x ≡ reads b → (a : A) × (x ≡ reads a) × (f a ≡ b)
within_reads f (refusal n) e = absurd (not_refused e)
within_reads f (reads a) e = (a, refl, reads_same e)

-- What a chain of refusals lets pass passes none of its tests, and the other way.
pub all_passed : {A : Type 0} {a : A} (rs : List (ℕ × Bool)) (next : Answer A) → refusals rs next ≡ reads a → Passes rs × (next ≡ reads a)
all_passed [] next e = (tt, e)
all_passed {a = a} (r ∷ rs) next e =
    let p : (r.1 ≡ false) × (refusals rs next ≡ reads a) = passed r.0 r.1 (refusals rs next) a e in
    let h : Passes rs × (next ≡ reads a) = all_passed rs next p.1 in
    ((p.0, h.0), h.1)

pub all_passing : {A : Type 0} (rs : List (ℕ × Bool)) (next : Answer A) → Passes rs → refusals rs next ≡ next
all_passing [] next h = refl
all_passing (r ∷ rs) next h = rw h.0 (all_passing rs next h.1)
