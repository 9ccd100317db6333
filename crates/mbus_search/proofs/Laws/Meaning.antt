-- What a search's answer means: the line found is accepted, none begins before it, no other length is possible there; 18 means that none
-- begins anywhere.
use Rattle.std.proofs.Common.{◌≡◌, ℕ, zero, suc, ◌+◌, ◌<◌, ◌≤◌, false, eqb, ltb, List, [], ◌∷◌, length, take, drop, sym, refl, ap, ◌∙◌, subst, ap₂, zero-le, add-one, arith, length-drop, drop_of_length-le, ltb-false, ltb-true, eqb-true}
use mathlib.Core.Bool.{false≢true}
use borrow.Author.Tests.{eqb-false}
use lib.Seq.{take-nil, drop-nil}
use Rattle.base_rules.specs.Answers.{Answer, reads, refusal}
use Rattle.base_rules.proofs.Laws.Tests.{by_test}
use Rattle.mbus_rules.specs.Lines.{read_line}
use Rattle.mbus_search.specs.declared.Spot.{Spot}
use Rattle.mbus_search.specs.Searching.{accepts, Begins, length_from, length_here, further, or_else, find_in}
use Rattle.mbus_search.proofs.Laws.SearchLaws.{left_at, only_length, here_hit}

-- only one length is possible at a place
pub one_length : (s : List ℕ) (place m n : ℕ) → Begins s place m → Begins s place n → m ≡ n
one_length s place m n a b = sym (only_length (drop place s) m a.0 a.1) ∙ only_length (drop place s) n b.0 b.1

from_begins : (k n m : ℕ) (s : List ℕ) → n + k ≤ length s + 1 → length_from k n s ≡ reads m → Begins s 0 m
unfolding length_from
from_begins zero n m s h e = let z : ◌≡◌ {A = ℕ} 0 1 = cc in absurd (omega arith)
from_begins (suc k) n m s h e = by_test (accepts (read_line (take n s)))
    (λ t. let q : n ≡ m = reads_same (rw t at e) in (omega arith, ap (λ (x : ℕ). accepts (read_line (take x s))) (sym q) ∙ t))
    (λ t. from_begins k (n + 1) m s (omega arith) (rw t at e))
  where
    reads_same : {a b : ℕ} → reads a ≡ reads b → a ≡ b
    reads_same p = cc

nothing_accepted : accepts (read_line []) ≡ false
unfolding read_line
nothing_accepted = refl

-- a line lies inside its capture
pub begins_inside : (s : List ℕ) (place n : ℕ) → Begins s place n → place + n ≤ length s
begins_inside s place n b = by_test (ltb (length s) place)
    (λ t. let beyond : length s < place = ltb-true (length s) place t in
    let over : length s ≤ place = omega arith in
    let none : take n (drop place s) ≡ [] = ap (take n) (drop_of_length-le s over) ∙ take-nil n in
    absurd (false≢true (sym nothing_accepted ∙ ap (λ (l : List ℕ). accepts (read_line l)) (sym none) ∙ b.1)))
    (λ t. omega (arith, ltb-false (length s) place t, length-drop place s, b.0))

-- the line found begins there
pub found_begins : (s : List ℕ) (p : Spot) → find_in s ≡ reads p → Begins s p.place p.length
unfolding find_in
found_begins [] p e = let z : ◌≡◌ {A = ℕ} 0 1 = cc in absurd (omega arith)
found_begins (c ∷ s) p e = go (length_here (c ∷ s)) refl (find_in s) refl (found_begins s) e
  where
    go : (a : Answer ℕ) → length_here (c ∷ s) ≡ a → (f : Answer Spot) → find_in s ≡ f → ((q : Spot) → find_in s ≡ reads q → Begins s q.place q.length)
        → or_else a (further f) ≡ reads p → Begins (c ∷ s) p.place p.length
    go (reads n) h f g rest q =
        let here : ◌≡◌ {A = Spot} (record { place = 0; length = n }) p = cc in
        subst (λ (x : Spot). Begins (c ∷ s) x.place x.length) here (from_begins (length (c ∷ s)) 1 n (c ∷ s) (omega arith) h)
    go (refusal k) h (refusal m) g rest q = let z : ◌≡◌ {A = ℕ} 0 1 = cc in absurd (omega arith)
    go (refusal k) h (reads f) g rest q =
        let there : ◌≡◌ {A = Spot} (record { place = f.place + 1; length = f.length }) p = cc in
        subst (λ (x : Spot). Begins (c ∷ s) x.place x.length) there (rw add-one (rest f g))

-- wherever a line begins, one is found there or before
pub begins_found : (s : List ℕ) (place n : ℕ) → Begins s place n → (p : Spot) × (find_in s ≡ reads p) × (p.place ≤ place)
unfolding find_in
begins_found [] place n b =
    let none : take n (drop place []) ≡ [] = ap (take n) (drop-nil place) ∙ take-nil n in
    absurd (false≢true (sym nothing_accepted ∙ ap (λ (l : List ℕ). accepts (read_line l)) (sym none) ∙ b.1))
begins_found (c ∷ s) zero n b =
    let only = only_length (c ∷ s) n b.0 b.1 in
    let some : 0 < n = by_test (eqb n 0) (λ t. absurd (false≢true (sym nothing_accepted ∙ ap (λ (k : ℕ). accepts (read_line (take k (c ∷ s))))
    (sym (eqb-true n 0 t)) ∙ b.1))) (λ t. let ne : n ≡ 0 → ⊥ = eqb-false n 0 t in omega arith) in
    let hit = here_hit (c ∷ s) (omega (arith, only)) (omega (arith, only, b.0)) (ap (λ (k : ℕ). accepts (read_line (take k (c ∷ s)))) only ∙ b.1) in
    (record { place = 0; length = left_at (c ∷ s) }, ap (λ (a : Answer ℕ). or_else a (further (find_in s))) hit, zero-le)
begins_found (c ∷ s) (suc place) n b = go (length_here (c ∷ s)) refl (begins_found s place n b)
  where
    go : (a : Answer ℕ) → length_here (c ∷ s) ≡ a → (p : Spot) × (find_in s ≡ reads p) × (p.place ≤ place)
        → (p : Spot) × (or_else (length_here (c ∷ s)) (further (find_in s)) ≡ reads p) × (p.place ≤ suc place)
    go (reads m) h r = (record { place = 0; length = m }, ap (λ (a : Answer ℕ). or_else a (further (find_in s))) h, zero-le)
    go (refusal k) h r = (
      record { place = r.0.place + 1; length = r.0.length },
      ap₂ (λ (a : Answer ℕ) (f : Answer Spot). or_else a (further f)) h r.1,
      omega (arith, r.2),
    )

-- 18: no accepted line begins anywhere
pub none_begins : (s : List ℕ) (k place n : ℕ) → find_in s ≡ refusal k → Begins s place n → ⊥
none_begins s k place n e b = let f = begins_found s place n b in let z : ◌≡◌ {A = ℕ} 0 1 = cc f.1 in omega arith

-- the place found is the lowest
pub lowest : (s : List ℕ) (p : Spot) (place n : ℕ) → find_in s ≡ reads p → Begins s place n → p.place ≤ place
lowest s p place n e b = let f = begins_found s place n b in let q : f.0 ≡ p = cc f.1 in rw (← q) f.2
