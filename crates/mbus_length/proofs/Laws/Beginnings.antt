-- The tests of `specs/Wholes` on a beginning of a list of characters, and what the answer tells of them.
use Prim.Native.Nat.{ℕ, zero, suc, ◌≤◌}
use mathlib.Core.Bool.{Bool, true, false, cond, ◌||◌}
use mathlib.Core.List.{List, [], ◌∷◌}
use mathlib.Core.Path.{◌≡◌, refl, ap₂}
use native.Mathlib.Nat.{le_of_suc-le-suc}
use native.Mathlib.Omega.{arith}
use lib.ListN.{take}
use Rattle.base_rules.specs.Lists.{any}
use Rattle.base_characters.specs.Characters.{over, odd}
use Rattle.base_rules.proofs.Laws.Tests.{neither}
use Rattle.mbus_length.specs.declared.HowLong.TheVariants.{Known, NotYet, NoLine}
use Rattle.mbus_length.specs.Lengths.{unsound_in}

-- where none of the first characters passes a test, none of fewer of them does
clean : (test : ℕ → Bool) (w : List ℕ) (m n k : ℕ) → m ≤ n → any test (take n w) ≡ false → any test (take m (take k w)) ≡ false
unfolding any
clean test w zero n k h e = refl
clean test w (suc m) zero k h e = absurd (omega arith)
clean test w (suc m) (suc n) zero h e = refl
clean test [] (suc m) (suc n) (suc k) h e = refl
clean test (x ∷ w) (suc m) (suc n) (suc k) h e =
    let both = neither (test x) (any test (take n w)) e in
    rw both.0 (clean test w m n k (le_of_suc-le-suc h) both.1)

pub sound_first : (w : List ℕ) (m n k : ℕ) → m ≤ n → any over (take n w) ≡ false → any odd (take n w) ≡ false → unsound_in m (take k w) ≡ false
sound_first w m n k h in_range even = ap₂ ◌||◌ (clean over w m n k h in_range) (clean odd w m n k h even)

-- ---- what the answer tells of the tests

pub known_by : (bad lacks : Bool) (n m : ℕ) → cond bad NoLine (cond lacks NotYet (Known n)) ≡ Known m → (bad ≡ false) × (lacks ≡ false) × (n ≡ m)
known_by true lacks n m e = let z : ◌≡◌ {A = ℕ} 0 1 = cc in absurd (omega arith)
known_by false true n m e = let z : ◌≡◌ {A = ℕ} 0 1 = cc in absurd (omega arith)
known_by false false n m e = (refl, refl, (cc))

pub none_by : (bad lacks : Bool) (n : ℕ) → cond bad NoLine (cond lacks NotYet (Known n)) ≡ NoLine → bad ≡ true
none_by true lacks n e = refl
none_by false true n e = let z : ◌≡◌ {A = ℕ} 0 1 = cc in absurd (omega arith)
none_by false false n e = let z : ◌≡◌ {A = ℕ} 0 1 = cc in absurd (omega arith)

pub not_yet_by : (bad lacks : Bool) (n : ℕ) → cond bad NoLine (cond lacks NotYet (Known n)) ≡ NotYet → lacks ≡ true
not_yet_by true lacks n e = let z : ◌≡◌ {A = ℕ} 0 1 = cc in absurd (omega arith)
not_yet_by false true n e = refl
not_yet_by false false n e = let z : ◌≡◌ {A = ℕ} 0 1 = cc in absurd (omega arith)
