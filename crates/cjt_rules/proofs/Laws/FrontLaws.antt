-- FE bytes in front of a line.
use Prim.Native.Nat.{ℕ, zero, suc, ◌+◌, ◌-◌, ◌≤◌}
use native.Mathlib.Omega.{arith}
use mathlib.Core.Bool.{Bool, true, false}
use mathlib.Core.List.{List, ◌∷◌, ◌++◌, map, map-append}
use mathlib.Core.Logic.{◌≢◌}
use mathlib.Core.Path.{◌≡◌, refl, sym, ap, ◌∙◌}
use borrow.Author.Tests.{ne_eqb, ltb-false}
use lib.Dec.{eqb}
use lib.Count.{ones_in}
use lib.ListN.{length, replicate, length-append}
use Rattle.base_rules.specs.Lists.{any}
use Rattle.base_characters.specs.Characters.{over, odd, byte_of, carrier}
use Rattle.base_rules.specs.Answers.{Answer, refuse}
use Rattle.base_rules.proofs.Laws.Tests.{neither}
use Rattle.base_characters.proofs.Laws.CharacterLaws.{carrier_byte}
use Rattle.cjt_rules.specs.CjtFrames.{past_fe}
use Rattle.cjt_rules.specs.CjtLines.{read_cjt_frame, read_cjt_line}

-- FE with the parity bit that makes it even
abbrev pub front : ℕ → List ℕ
front n = replicate n (carrier 0xFE)

-- a test that FE does not pass
pub any_front : (test : ℕ → Bool) → test (carrier 0xFE) ≡ false → (n : ℕ) (s : List ℕ) → any test (front n ++ s) ≡ any test s
unfolding any
any_front test e zero s = refl
any_front test e (suc n) s = rw e (any_front test e n s)

front_over : (n : ℕ) (s : List ℕ) → any over (front n ++ s) ≡ any over s
unfolding carrier ones_in
front_over = any_front over refl

front_odd : (n : ℕ) (s : List ℕ) → any odd (front n ++ s) ≡ any odd s
unfolding carrier odd ones_in
front_odd = any_front odd refl

-- what does not begin with FE is not shortened
pub past_nothing : (left x : ℕ) (b : List ℕ) → eqb x 0xFE ≡ false → past_fe left (x ∷ b) ≡ x ∷ b
unfolding past_fe
past_nothing zero x b e = refl
past_nothing (suc left) x b e = rw e

pub past_front : (left n x : ℕ) (b : List ℕ) → n ≤ left → eqb x 0xFE ≡ false → past_fe left (map byte_of (front n) ++ x ∷ b) ≡ x ∷ b
unfolding past_fe carrier ones_in
past_front left zero x b h e = past_nothing left x b e
past_front zero (suc n) x b h e = absurd (omega arith)
past_front (suc left) (suc n) x b h e = past_front left n x b (omega arith) e

chain : {A : Type 0} (over odd : Bool) (x y : Answer A) → (over ≡ false → odd ≡ false → x ≡ y) → refuse 2 over (refuse 3 odd x) ≡ refuse 2 over (refuse 3 odd y)
chain true odd x y e = refl
chain false true x y e = refl
chain false false x y e = e refl refl

-- Up to five of them change nothing in the answer, whatever follows, unless it is nothing or begins with FE itself.
pub front_changes_nothing : (n c : ℕ) (s : List ℕ) → n ≤ 5 → c ≢ carrier 0xFE → read_cjt_line (front n ++ c ∷ s) ≡ read_cjt_line (c ∷ s)
unfolding read_cjt_line any
front_changes_nothing n c s h d =
    let some : eqb (length (front n ++ c ∷ s)) 0 ≡ false = some_there n in
    rw (some, ne_eqb (length (c ∷ s)) 0 (omega arith), front_over n (c ∷ s), front_odd n (c ∷ s), map-append)
    (chain (any over (c ∷ s)) (any odd (c ∷ s)) _ _ (λ in_range even.
    let other : eqb (byte_of c) 0xFE ≡ false = ne_eqb _ _ (λ fe. d (
    sym (carrier_byte c (ltb-false 511 c (neither (over c) (any over s) in_range).0) (neither (odd c) (any odd s) even).0) ∙ ap carrier fe)) in
    ap read_cjt_frame (past_front 5 n (byte_of c) (map byte_of s) h other ∙ sym (past_nothing 5 (byte_of c) (map byte_of s) other))))
  where
    some_there : (n : ℕ) → eqb (length (front n ++ c ∷ s)) 0 ≡ false
    some_there n = ne_eqb (length (front n ++ c ∷ s)) 0 (omega (arith, length-append (front n) (c ∷ s)))
