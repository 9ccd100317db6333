-- Laws of what stands first in marked bytes.
use Prim.Native.Nat.{ℕ, ◌+◌, ◌≤◌, ◌<◌}
use mathlib.Core.Bool.{Bool, true, false, cond}
use mathlib.Core.List.{List, [], ◌∷◌, ◌++◌}
use mathlib.Core.Logic.{inl, inr}
use mathlib.Core.Path.{◌≡◌, refl, ap, ◌∙◌}
use native.Mathlib.Numerals.{add-one}
use native.Mathlib.Omega.{arith}
use borrow.Author.Tests.{eqb-true}
use lib.Dec.{eqb}
use lib.ListN.{length, get_or, drop}
use lib.Seq.{drop-cons}
use Rattle.base_characters.specs.Characters.{byte_of, odd, carrier}
use Rattle.base_rules.proofs.Laws.Tests.{by_test}
use Rattle.base_characters.proofs.Laws.CharacterLaws.{carrier_byte}
use Rattle.serial_marks.specs.Marks.{port_marked, wronged, Beginning}
use Rattle.serial_marks.specs.Unmarking.{whole, first, after_mark, after_zero}
use Rattle.std.specs.Prelude.{Option, Some, None}
use Rattle.serial_marks.specs.declared.Whole.{Whole}
use Rattle.serial_marks.proofs.Laws.MarkLaws.{wronged_back}

-- the byte at a place of the bytes, as the code looks at it, and what comes behind it
pub here : (s : List ℕ) (at : ℕ) → at < length s → drop at s ≡ get_or s at 0 ∷ drop (at + 1) s
here s at h = rw (add-one, drop-cons s at 0)

-- either way it can go
by_case : {X : Type 0} (f : Option Whole) → (f ≡ None → X) → ((n c : ℕ) → f ≡ Some (whole n c) → X) → X
by_case None stop go = stop refl
by_case (Some w) stop go = go w.size w.character refl

pub by_first : {X : Type 0} (s : List ℕ) → (first s ≡ None → X) → ((n c : ℕ) → first s ≡ Some (whole n c) → X) → X
by_first s stop go = by_case (first s) stop go

-- ---- a whole character is some of the bytes, and what comes behind them does not change it

pub record Sized (n : ℕ) (s : List ℕ) : Type 0 where
  pub some : 0 < n
  pub inside : n ≤ length s

Known : Option Whole → Option Whole → List ℕ → Type 0
Known None g s = Unit {0}
Known (Some w) g s = (g ≡ Some w) × Sized w.size s

known_either : (s : List ℕ) (t : Bool) (a a' b b' : Option Whole) → Known a a' s → Known b b' s → Known (cond t a b) (cond t a' b') s
known_either s true a a' b b' ha hb = ha
known_either s false a a' b b' ha hb = hb

zero_known : (x y : ℕ) (s q : List ℕ) → Known (after_zero s) (after_zero (s ++ q)) (x ∷ y ∷ s)
unfolding Known
zero_known x y [] q = tt
zero_known x y (b ∷ s) q = (refl, record { some = omega arith; inside = omega arith })

mark_known : (x : ℕ) (s q : List ℕ) → Known (after_mark s) (after_mark (s ++ q)) (x ∷ s)
unfolding Known
mark_known x [] q = tt
mark_known x (b ∷ s) q =
    known_either (x ∷ b ∷ s) (eqb b 0xFF) (Some (whole 2 (carrier 0xFF))) (Some (whole 2 (carrier 0xFF))) (cond (eqb b 0x00) (after_zero s) (Some (whole 1 (wronged 0xFF))))
    (cond (eqb b 0x00) (after_zero (s ++ q)) (Some (whole 1 (wronged 0xFF)))) (refl, record { some = omega arith; inside = omega arith })
    (known_either (x ∷ b ∷ s) (eqb b 0x00) (after_zero s) (after_zero (s ++ q)) (Some (whole 1 (wronged 0xFF))) (Some (whole 1 (wronged 0xFF))) (zero_known x b s q)
    (refl, record { some = omega arith; inside = omega arith }))

first_known : (s q : List ℕ) → Known (first s) (first (s ++ q)) s
unfolding Known
first_known [] q = tt
first_known (b ∷ s) q =
    known_either (b ∷ s) (eqb b 0xFF) (after_mark s) (after_mark (s ++ q)) (Some (whole 1 (carrier b))) (Some (whole 1 (carrier b))) (mark_known b s q)
    (refl, record { some = omega arith; inside = omega arith })

pub first_on : (s q : List ℕ) {n c : ℕ} → first s ≡ Some (whole n c) → (first (s ++ q) ≡ Some (whole n c)) × Sized n s
unfolding Known
first_on s q e = rw e at (first_known s q)

-- ---- what is unfinished is the beginning of a mark

one_case : (f : Option Whole) (n c : ℕ) → f ≡ Some (whole n c) → f ≡ None → ⊥
one_case f n c e u = let z : ◌≡◌ {A = ℕ} 0 1 = cc in omega arith

zero_left : (s : List ℕ) → after_zero s ≡ None → s ≡ []
zero_left [] e = refl
zero_left (b ∷ s) e = absurd (one_case (after_zero (b ∷ s)) 3 (wronged b) refl e)

mark_left : (s : List ℕ) → after_mark s ≡ None → Beginning (0xFF ∷ s)
mark_left [] e = inr (inl refl)
mark_left (b ∷ s) e =
    by_test (eqb b 0xFF) (λ m. absurd (one_case (after_mark (b ∷ s)) 2 (carrier 0xFF) (rw m) e))
    (λ m. by_test (eqb b 0x00)
    (λ z. inr (inr (rw (eqb-true b 0x00 z, zero_left s (rw (m, z) at e)) refl)))
    (λ z. absurd (one_case (after_mark (b ∷ s)) 1 (wronged 0xFF) (rw (m, z)) e)))

pub first_left : (s : List ℕ) → first s ≡ None → Beginning s
first_left [] e = inl refl
first_left (b ∷ s) e =
    by_test (eqb b 0xFF) (λ m. rw (eqb-true b 0xFF m) (mark_left s (rw m at e)))
    (λ m. absurd (one_case (first (b ∷ s)) 1 (carrier b) (rw m) e))

-- ---- a character that was marked stands first as itself

pub first_marked : (c : ℕ) → c ≤ 511 → (s : List ℕ) → first (port_marked c ++ s) ≡ Some (whole (length (port_marked c)) c)
first_marked c h s =
    by_test (odd c) (λ o. rw o (ap (λ (x : ℕ). Some (whole 3 x)) (wronged_back c h o)))
    (λ o. by_test (eqb (byte_of c) 0xFF)
    (λ m. rw (o, m) (ap (λ (x : ℕ). Some (whole 2 x)) (ap carrier (eqb-true 0xFF (byte_of c) (rw (eqb-true (byte_of c) 0xFF m))) ∙ carrier_byte c h o)))
    (λ m. rw (o, m) (rw m (ap (λ (x : ℕ). Some (whole 1 x)) (carrier_byte c h o)))))
