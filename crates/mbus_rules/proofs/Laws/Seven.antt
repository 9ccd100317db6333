-- Seven different quantities are all there are: an eighth entry always repeats one, so that seven places hold all entries.
use Prim.Native.Nat.{ℕ, zero, suc, ◌+◌, ◌≤◌, ◌<◌}
use native.Mathlib.Omega.{arith}
use mathlib.Core.Bool.{Bool, true, false, not, ◌||◌, true≢false, or-false, or_assoc, and-eq-true_iff}
use mathlib.Core.List.{List, [], ◌∷◌, ◌++◌}
use mathlib.Core.Logic.{⊎_elim}
use mathlib.Core.Path.{◌≡◌, refl, sym, ap, subst, ◌∙◌}
use native.Mathlib.Nat.{eq-or-lt_of_le, le_of_suc-le-suc, add-suc}
use lib.Dec.{ltb, eqb, lit<}
use lib.ListN.{length, length-append}
use borrow.Author.Tests.{ltb-true, eqb-true, eqb-false, ne_eqb, not-false}
use Rattle.mbus_rules.specs.declared.Entry.{Entry}
use Rattle.base_rules.specs.Lists.{at, any}
use Rattle.mbus_rules.specs.Quantities.{quantity_of, paired, is_time, is_packed, is_binary}
use Rattle.mbus_rules.specs.Entries.{entry_width, unfit, seen}
use Rattle.base_rules.proofs.Laws.Tests.{by_test, neither}

-- ---- how many numbers below a bound pass a test

abbrev one : Bool → ℕ
one true = 1
one false = 0

abbrev tally : ℕ → (ℕ → Bool) → ℕ
tally zero test = 0
tally (suc n) test = one (test n) + tally n test

tally_most : (n : ℕ) (test : ℕ → Bool) → tally n test ≤ n
tally_most zero test = omega arith
tally_most (suc n) test = go (test n) (tally_most n test)
  where
    go : (b : Bool) → tally n test ≤ n → one b + tally n test ≤ suc n
    go true h = omega arith
    go false h = omega arith

-- where so many pass as there are, each does
tally_all : (n : ℕ) (test : ℕ → Bool) → tally n test ≡ n → (k : ℕ) → k < n → test k ≡ true
tally_all zero test e k h = absurd (omega arith)
tally_all (suc n) test e k h = go (test n) refl e (λ d l. tally_all n test d k l)
  where
    go : (b : Bool) → test n ≡ b → one b + tally n test ≡ suc n → (tally n test ≡ n → k < n → test k ≡ true) → test k ≡ true
    go true p q rest = ⊎_elim (λ s. ap test s ∙ p) (λ l. rest (omega arith) l) (eq-or-lt_of_le (le_of_suc-le-suc h))
    go false p q rest = absurd (omega (arith, tally_most n test))

-- one number more that passes
module _ (k : ℕ) (test more : ℕ → Bool) (other : (q : ℕ) → more q ≡ (test q || eqb k q)) where
  unmarked : (q : ℕ) → eqb k q ≡ false → more q ≡ test q
  unmarked q d = other q ∙ rw d (or-false (test q))

  tally_below : (n : ℕ) → n ≤ k → tally n more ≡ tally n test
  tally_below zero h = refl
  tally_below (suc n) h = rw (unmarked n (ne_eqb k n (omega arith)), tally_below n (omega arith))

  pub tally_more : test k ≡ false → (n : ℕ) → k < n → tally n more ≡ suc (tally n test)
  tally_more absent zero h = absurd (omega arith)
  tally_more absent (suc n) h =
      by_test (eqb k n)
      (λ y. let same : k ≡ n = eqb-true k n y in
      rw (other n, y, ap test (sym same) ∙ absent, tally_below n (omega arith)) (omega arith))
      (λ d. let apart : k ≡ n → ⊥ = eqb-false k n d in
      rw (unmarked n d, tally_more absent n (omega arith)) (add-suc (one (test n)) (tally n test)))

-- ---- the entries so far

-- the quantities among them, as many as there are entries
abbrev pub Different : List Entry → Type 0
Different done = tally 7 (λ q. seen q done) ≡ length done

seen_last : (q : ℕ) (done : List Entry) (e : Entry) → seen q (done ++ (e ∷ [])) ≡ (seen q done || eqb (quantity_of e.unit) q)
unfolding any
seen_last q [] e = or-false (eqb (quantity_of e.unit) q)
seen_last q (d ∷ done) e = rw (seen_last q done e) (sym (or_assoc (eqb (quantity_of d.unit) q) (seen q done) (eqb (quantity_of e.unit) q)))

pub different_last : (done : List Entry) (e : Entry) → Different done → quantity_of e.unit < 7 → seen (quantity_of e.unit) done ≡ false
    → Different (done ++ (e ∷ []))
different_last done e d h new =
    tally_more (quantity_of e.unit) (λ q. seen q done) (λ q. seen q (done ++ (e ∷ []))) (λ q. seen_last q done e) new 7 h
    ∙ ap suc d ∙ sym (length-append done (e ∷ []) ∙ omega arith)

pub none_yet : Different []
unfolding any
none_yet = refl

-- there are at most seven of them, and less while a quantity is new
pub different_few : (done : List Entry) → Different done → length done ≤ 7
different_few done d = omega (arith, tally_most 7 (λ q. seen q done))

pub different_room : (q : ℕ) (done : List Entry) → Different done → q < 7 → seen q done ≡ false → length done < 7
different_room q done d h new =
    ⊎_elim (λ e. absurd (true≢false (sym (tally_all 7 (λ k. seen k done) (d ∙ e) q h) ∙ new))) (λ l. l) (eq-or-lt_of_le (different_few done d))

-- a fit entry has one of the seven quantities
time_known : quantity_of 0x6D < 7
unfolding quantity_of
time_known = lit< tt

pub fit_known : (s : List ℕ) → unfit s ≡ false → quantity_of (at s 1) < 7
unfolding paired
fit_known s e =
    let pair = (neither (ltb (length s) 2 || not (paired (at s 0) (at s 1))) (ltb (length s) (entry_width s)) e).0 in
    go (is_time (at s 1)) refl (not-false _ (neither (ltb (length s) 2) (not (paired (at s 0) (at s 1))) pair).1)
  where
    go : (b : Bool) → is_time (at s 1) ≡ b → paired (at s 0) (at s 1) ≡ true → quantity_of (at s 1) < 7
    go true t p = subst (λ (u : ℕ). quantity_of u < 7) (sym (eqb-true (at s 1) 0x6D t)) time_known
    go false t p = ltb-true (quantity_of (at s 1)) 7 ((and-eq-true_iff (is_packed (at s 0) || is_binary (at s 0)) (ltb (quantity_of (at s 1)) 7)).0 (rw t at p)).1
