-- Laws of a walk over entries.
use Prim.Native.Nat.{ℕ, suc, ◌+◌, ◌<◌}
use mathlib.Core.Bool.{Bool, true, false, ◌||◌, or-false, or-true}
use mathlib.Core.List.{List, [], ◌∷◌, ◌++◌}
use mathlib.Core.Path.{◌≡◌, refl, sym, ap, ◌∙◌}
use native.Mathlib.Numerals.{add-one}
use native.Mathlib.Omega.{arith}
use borrow.Author.Tests.{eqb-true, eqb-false}
use lib.Dec.{eqb}
use lib.ListN.{length, get_or, take, drop, set, replicate, get_or-replicate, length-set, drop_of_length-le}
use lib.Seq.{drop-cons, take-suc, take_all, get_or-set_same, get_or-set_other}
use Rattle.mbus_rules.specs.declared.Entry.{Entry}
use Rattle.base_rules.specs.Lists.{any}
use Rattle.base_rules.proofs.Laws.ListLaws.{any_snoc}
use Rattle.mbus_rules.specs.Quantities.{quantity_of}
use Rattle.mbus_rules.specs.Entries.{seen, lacking}
use Rattle.mbus_rules.proofs.Laws.RowLaws.{quantity_few, lacking_same}
use Rattle.base_rules.proofs.Laws.Tests.{by_test}
use Rattle.mbus_rules.specs.Writing.{wrong_entry, repeats}
use Rattle.mbus_writable.specs.Together.{wrong_together}

-- what is wrong so far, and is wrong with what is left; the marks say which quantities came so far
pub record Walked (es : List Entry) (i : ℕ) (wrong : Bool) (marks : List Bool) : Type 0 where
  pub so : (wrong || (any wrong_entry (drop i es) || repeats (take i es) (drop i es))) ≡ (any wrong_entry es || repeats [] es)
  pub marked : (q : ℕ) → q < 8 → get_or marks q false ≡ seen q (take i es)
  pub eight : length marks ≡ 8

pub walked_none : (es : List Entry) → Walked es 0 false (replicate 8 false)
unfolding any
walked_none es = record { so = refl; marked = λ q h. get_or-replicate 8 q false false h; eight = refl }

regroup : (w b s a r : Bool) → ((w || b || s) || (a || r)) ≡ (w || ((b || a) || (s || r)))
regroup true b s a r = refl
regroup false true s a r = refl
regroup false false true a r = sym (or-true a)
regroup false false false a r = refl

mark : (marks : List Bool) (done : List Entry) (e : Entry) (q : ℕ) → length marks ≡ 8 → q < 8 → get_or marks q false ≡ seen q done
    → get_or (set marks (quantity_of e.unit) true) q false ≡ seen q (done ++ (e ∷ []))
unfolding any
mark marks done e q n h m =
    let p : ℕ = quantity_of e.unit in
    let small : p < 8 = quantity_few e.unit in
    let more : seen q (done ++ (e ∷ [])) ≡ (seen q done || eqb p q) = any_snoc (λ (x : Entry). eqb (quantity_of x.unit) q) done e in
    by_test (eqb p q)
    (λ y.
    let same : p ≡ q = eqb-true p q y in
    let now : get_or (set marks p true) p false ≡ true = get_or-set_same marks p true false (omega arith) in
    let then : (seen q done || eqb p q) ≡ true = rw y (or-true (seen q done)) in
    ap (λ (k : ℕ). get_or (set marks p true) k false) (sym same) ∙ now ∙ sym (more ∙ then))
    (λ y.
    let other : q ≡ p → ⊥ = λ (z : q ≡ p). eqb-false p q y (sym z) in
    let then : (seen q done || eqb p q) ≡ seen q done = rw y (or-false (seen q done)) in
    get_or-set_other marks p q true false other ∙ m ∙ sym (more ∙ then))

module _ {es : List Entry} {i : ℕ} {wrong : Bool} {marks : List Bool} (g : Walked es i wrong marks) where
  pub walked_next : (d : Entry) → i < length es
      → Walked es (i + 1) (wrong || wrong_entry (get_or es i d) || get_or marks (quantity_of (get_or es i d).unit) false)
      (set marks (quantity_of (get_or es i d).unit) true)
  unfolding any repeats
  walked_next d h =
      let e : Entry = get_or es i d in
      let q : ℕ = quantity_of e.unit in
      let rest : List Entry = drop (suc i) es in
      let done : take (suc i) es ≡ take i es ++ (e ∷ []) = take-suc es i d h in
      let left : drop i es ≡ e ∷ rest = drop-cons es i d h in
      let step : (wrong || (any wrong_entry (e ∷ rest) || repeats (take i es) (e ∷ rest))) ≡ (any wrong_entry es || repeats [] es) = rw left at g.so in
      record {
        so =
            rw (add-one, done, g.marked q (quantity_few e.unit))
            (regroup wrong (wrong_entry e) (seen q (take i es)) (any wrong_entry rest) (repeats (take i es ++ (e ∷ [])) rest) ∙ step);
        marked = λ p k. rw (add-one, done) (mark marks (take i es) e p g.eight k (g.marked p k));
        eight = length-set marks q true ∙ g.eight;
      }

  pub walked_all : i ≡ length es
      → (wrong || lacking (λ q. get_or marks q false)) ≡ wrong_together es
  unfolding any repeats
  walked_all e =
      let none : drop i es ≡ [] = drop_of_length-le es {i = i} (omega arith) in
      let all : take i es ≡ es = take_all i es (omega arith) in
      let done : wrong ≡ (any wrong_entry es || repeats [] es) = sym (or-false wrong) ∙ (rw none at g.so) in
      let m : (q : ℕ) → q < 8 → get_or marks q false ≡ seen q es = λ q h. g.marked q h ∙ ap (seen q) all in
      rw (done, lacking_same (λ q. get_or marks q false) (λ q. seen q es) m)
