-- Laws of `specs/Pages`, as the loops over rows and positions use them.
use Prim.Native.Nat.{ℕ, zero, suc, ◌+◌, ◌-◌, ◌≤◌, ◌<◌}
use native.Mathlib.Omega.{arith}
use mathlib.Core.Bool.{Bool, true, false, ◌||◌, or-true, or-false}
use mathlib.Core.List.{List, [], ◌∷◌}
use mathlib.Core.Path.{◌≡◌, refl, sym, ap, ◌∙◌}
use borrow.Author.Tests.{eq-eqb, eqb-true, eqb-false}
use lib.Dec.{eqb}
use lib.ListN.{length, get_or, set, replicate, drop, drop_of_length-le, length-set, get_or-replicate}
use lib.Seq.{drop-cons, get_or-set_same, get_or-set_other}
use native.Mathlib.Numerals.{add-one}
use Rattle.std.specs.Prelude.{filter}
use Rattle.base_rules.proofs.Laws.Tests.{by_test}
use Rattle.bundle_check.specs.Records.{Recorded}
use Rattle.run_picture.specs.Pages.{has_rows, used_from, Used}

-- ---- whether each position has rows: those of the rows so far are marked
pub record Using (ks rest : List Recorded) (used : List Bool) : Type 0 where
  pub places : length used ≡ 49
  pub so : (p : ℕ) → p < 49 → (get_or used p false || has_rows p rest) ≡ has_rows p ks

pub using_none : (ks : List Recorded) → Using ks ks (replicate 49 false)
using_none ks = record { places = refl; so = λ p h. rw (get_or-replicate 49 p false false h) }

module _ {ks rest more : List Recorded} {k : Recorded} {used : List Bool} (g : Using ks rest used) (r : rest ≡ k ∷ more) (few : k.position < 49) where
  tried : (p : ℕ) → p < 49 → (get_or used p false || (eqb k.position p || has_rows p more)) ≡ has_rows p ks
  unfolding has_rows
  tried p h = ap (λ (l : List Recorded). get_or used p false || has_rows p l) (sym r) ∙ g.so p h

  pub using_next : Using ks more (set used k.position true)
  using_next = record {
    places = length-set used k.position true ∙ g.places;
    so =
        λ p h.
        by_test (eqb k.position p)
        (λ t. let same : k.position ≡ p = eqb-true k.position p t in
        rw (← same, get_or-set_same used k.position true false (omega (arith, g.places)))
        (sym (or-true (get_or used k.position false)) ∙ (rw (← same, eq-eqb k.position k.position refl) at (tried p h))))
        (λ t. rw (get_or-set_other used k.position p true false (λ q. eqb-false k.position p t (sym q))) (rw t at (tried p h)));
  }

pub using_all : {ks rest : List Recorded} {used : List Bool} → rest ≡ [] → Using ks rest used → Used ks used
unfolding has_rows
using_all {ks} {rest} {used} r g = record {
  places = g.places;
  so = λ p h. sym (or-false (get_or used p false)) ∙ ap (λ (l : List Recorded). get_or used p false || has_rows p l) (sym r) ∙ g.so p h;
}

-- ---- positions that have rows, one by one
module _ (ks : List Recorded) (p : ℕ) where
  pub used_own : {left : ℕ} → 0 < left → true ≡ has_rows p ks → used_from ks left p ≡ p ∷ used_from ks (left - 1) (p + 1)
  unfolding used_from
  used_own {left = zero} h e = absurd (omega arith)
  used_own {left = suc n} h e = let one : suc n - 1 ≡ n = omega arith in rw (one, sym e)

  pub used_other : {left : ℕ} → 0 < left → false ≡ has_rows p ks → used_from ks left p ≡ used_from ks (left - 1) (p + 1)
  unfolding used_from
  used_other {left = zero} h e = absurd (omega arith)
  used_other {left = suc n} h e = let one : suc n - 1 ≡ n = omega arith in rw (one, sym e)

  pub used_none : {left : ℕ} → left ≤ 0 → used_from ks left p ≡ []
  unfolding used_from
  used_none {left = zero} h = refl
  used_none {left = suc n} h = absurd (omega arith)

-- ---- how many there are: the marks from a position on, counted
module _ (ks : List Recorded) {used : List Bool} (u : Used ks used) where
  module _ (n p : ℕ) (few : p < 49) (rest : length (filter (λ own. own) (drop (suc p) used)) ≡ length (used_from ks n (suc p))) where
    cons : drop p used ≡ get_or used p false ∷ drop (suc p) used
    cons = drop-cons used p false (omega (arith, u.places, few))

    one : suc n - 1 ≡ n
    one = omega arith

    counted_next : (b : Bool) → get_or used p false ≡ b → length (filter (λ own. own) (drop p used)) ≡ length (used_from ks (suc n) p)
    counted_next true t =
        let own = rw (one, add-one) at (used_own ks p {left = suc n} (omega arith) (sym t ∙ u.so p few)) in
        let more : length (filter (λ own. own) (drop p used)) ≡ suc (length (filter (λ own. own) (drop (suc p) used))) = rw (cons, t) refl in
        omega (arith, more, rest, ap length own)
    counted_next false t =
        let other = rw (one, add-one) at (used_other ks p {left = suc n} (omega arith) (sym t ∙ u.so p few)) in
        let more : length (filter (λ own. own) (drop p used)) ≡ length (filter (λ own. own) (drop (suc p) used)) = rw (cons, t) refl in
        omega (arith, more, rest, ap length other)

  pub used_counted : (n p : ℕ) → p + n ≡ 49 → length (filter (λ own. own) (drop p used)) ≡ length (used_from ks n p)
  used_counted zero p e =
      let none : drop p used ≡ [] = drop_of_length-le used {i = p} (omega (arith, u.places, e)) in
      rw (none, used_none ks p {left = 0} (omega arith)) refl
  used_counted (suc n) p e = counted_next n p (omega (arith, e)) (used_counted n (suc p) (omega (arith, e))) (get_or used p false) refl
