-- The loop that tries the rows one by one: what is left gives the whole answer.
use Prim.Native.Nat.{ℕ, suc, ◌+◌, ◌*◌, ◌≤◌, ◌<◌, zero-le}
use mathlib.Core.Bool.{Bool, true, false, not}
use mathlib.Core.List.{List, [], ◌∷◌}
use mathlib.Core.Path.{◌≡◌, refl, sym, ap, ◌∙◌}
use native.Mathlib.Nat.{zero-add, add-zero}
use native.Mathlib.Numerals.{add-one}
use native.Mathlib.Omega.{arith}
use borrow.Author.Tests.{not-false, eqb-true, eqb-false, ne_eqb}
use lib.Dec.{eqb}
use lib.ListN.{length, get_or, drop, drop_of_length-le}
use lib.Seq.{drop-cons, drop-drop}
use Rattle.base_rules.proofs.Laws.Tests.{not_different}
use Rattle.bundle_rows.specs.Rows.{most_rows, row_of, rows_of, first_offset, blank_row, unchecked_row}
use Rattle.bundle_rows.specs.declared.Row.{Row}
use Rattle.bundle_rows.proofs.Laws.RowLaws.{length_rows, row_at_lem, row_in}
use Rattle.bundle_check.specs.RowRules.{next_offset}
use Rattle.bundle_check.proofs.Laws.RowRules.{place_right}
use Rattle.bundle_salvage.specs.declared.leading.Leading.{Leading}
use Rattle.bundle_salvage.specs.Salvaging.{rule_of, one_more, leading, leading_rows}
use Rattle.bundle_salvage.specs.Writing.{ContentsWhole}
use Rattle.bundle_salvage.proofs.Laws.Leading.{rule_right}

-- with so many rows in front that are kept
abbrev raised : ℕ → Leading → Leading
raised i l = record { kept = i + l.kept; rule = l.rule; end = l.end }

pub record Trying (b : List ℕ) (n i before at : ℕ) : Type 0 where
  pub whole : ContentsWhole b n
  pub inside : i ≤ n
  pub near : at ≤ length b
  pub so : leading_rows n b ≡ raised i (leading b before at (drop i (rows_of n (drop 2 b))))

-- the row that is read without the check is the one that stands there
pub row_here : (b : List ℕ) (k n i : ℕ) → ContentsWhole b n → k ≤ n → i < k → unchecked_row b i ≡ get_or (rows_of k (drop 2 b)) i blank_row
row_here b k n i w l h =
    row_in b i (omega (arith, w.few)) (omega (arith, w.there)) ∙ sym (row_at_lem k i (drop 2 b) h ∙ ap row_of (drop-drop (12 * i) 2 b))

module _ {b : List ℕ} {n : ℕ} where
  pub trying_none : ContentsWhole b n → Trying b n 0 0 (first_offset n)
  trying_none w = record {
    whole = w;
    inside = zero-le;
    near = w.there;
    so = λ j. record {
      kept = sym (zero-add (leading_rows n b).kept) j;
      rule = (leading_rows n b).rule;
      end = (leading_rows n b).end;
    };
  }

  module _ {i before at : ℕ} (g : Trying b n i before at) where
    module _ (h : i < n) {r : Row} (e : r ≡ unchecked_row b i) {rule : ℕ} (f : rule ≡ rule_of b before at r) where
      here : drop i (rows_of n (drop 2 b)) ≡ r ∷ drop (suc i) (rows_of n (drop 2 b))
      here =
          drop-cons (rows_of n (drop 2 b)) i blank_row (omega (arith, length_rows n (drop 2 b)))
          ∙ ap (λ (x : Row). x ∷ (drop (suc i) (rows_of n (drop 2 b)))) (sym (e ∙ row_here b n n i g.whole (omega arith) h))

      pub trying-next : not (eqb rule 0) ≡ false → Trying b n (i + 1) r.time (at + r.length)
      unfolding leading
      trying-next t =
          let zero : rule_of b before at r ≡ 0 = sym f ∙ not_different rule 0 t in
          let step : leading b before at (drop i (rows_of n (drop 2 b))) ≡ one_more (leading b r.time (next_offset at r) (drop (suc i) (rows_of n (drop 2 b)))) =
          rw (here, zero) in
          let rest : Leading = leading b r.time (next_offset at r) (drop (suc i) (rows_of n (drop 2 b))) in
          let more : i + suc rest.kept ≡ i + 1 + rest.kept = omega arith in
          let moved : raised i (one_more rest) ≡ raised (i + 1) rest = λ j. record { kept = more j; rule = rest.rule; end = rest.end } in
          record {
            whole = g.whole;
            inside = omega arith;
            near = (place_right (length b) at r (rule_right b before at r zero).placed).1;
            so =
                g.so ∙ ap (raised i) step ∙ moved ∙ ap (λ (k : ℕ). raised (i + 1) (leading b r.time (next_offset at r) (drop k (rows_of n (drop 2 b)))))
                (sym (add-one i));
          }

      pub trying-broken : not (eqb rule 0) ≡ true → record { kept = i; rule = rule; end = at } ≡ leading_rows n b
      unfolding leading
      trying-broken t =
          let other : eqb (rule_of b before at r) 0 ≡ false = ap (λ (x : ℕ). eqb x 0) (sym f) ∙ test (eqb rule 0) t in
          let stop : leading b before at (drop i (rows_of n (drop 2 b))) ≡ record { kept = 0; rule = rule_of b before at r; end = at } = rw (here, other) in
          sym (g.so ∙ ap (raised i) stop ∙ (λ j. record { kept = add-zero i j; rule = sym f j; end = at }))
        where
          test : (x : Bool) → not x ≡ true → x ≡ false
          test true e = sym e
          test false e = refl

    pub trying_all : n ≤ i → record { kept = n; rule = 0; end = at } ≡ leading_rows n b
    unfolding leading
    trying_all h =
        let all : i + 0 ≡ n = omega (arith, g.inside) in
        let few : length (rows_of n (drop 2 b)) ≤ i = omega (arith, length_rows n (drop 2 b)) in
        let none : drop i (rows_of n (drop 2 b)) ≡ [] = drop_of_length-le (rows_of n (drop 2 b)) few in
        sym (g.so ∙ ap (λ (l : List Row). raised i (leading b before at l)) none ∙ (λ j. record { kept = all j; rule = 0; end = at }))
