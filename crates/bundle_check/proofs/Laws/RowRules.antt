-- Laws of `specs/RowRules`.
use Prim.Native.Nat.{ℕ, ◌+◌, ◌*◌, ◌≤◌, ◌<◌, zero-le}
use mathlib.Core.Bool.{Bool, false, not, ◌||◌}
use mathlib.Core.List.{List, ◌∷◌}
use mathlib.Core.Path.{◌≡◌, sym, ap, ◌∙◌}
use native.Mathlib.Omega.{arith}
use borrow.Author.Tests.{ltb-false}
use lib.Dec.{ltb, eqb}
use lib.ListN.{drop}
use lib.Seq.{drop-drop}
use Rattle.base_rules.proofs.Laws.Tests.{neither, not_different}
use Rattle.bundle_rows.specs.declared.Row.{Row}
use Rattle.bundle_rows.specs.Rows.{row_of, rows_of, blank_row}
use Rattle.bundle_rows.proofs.Laws.RowLaws.{length_rows, row_at_lem}
use Rattle.bundle_check.specs.Walks.{some_wrong, end_of}
use Rattle.bundle_check.proofs.Laws.Walks.{StateWalked, walked_none, walked_next, walked_found, walked_end}
use Rattle.bundle_check.specs.RowRules.{next_offset, wrong_place, wrong_places}

-- a place that is not wrong
pub place_right : (end place : ℕ) (r : Row) → wrong_place end place r ≡ false → (r.offset ≡ place) × (next_offset place r ≤ end)
place_right end place r w =
    let p = neither (not (eqb r.offset place)) (ltb end (next_offset place r)) w in
    (not_different r.offset place p.0, ltb-false end (next_offset place r) p.1)

pub places_right : (end place : ℕ) (r : Row) (rows : List Row) → wrong_places end place (r ∷ rows) ≡ false
    → (r.offset ≡ place) × (next_offset place r ≤ end) × (wrong_places end (next_offset place r) rows ≡ false)
unfolding some_wrong
places_right end place r rows w =
    let p = neither (wrong_place end place r) (wrong_places end (next_offset place r) rows) w in
    let q = place_right end place r p.0 in
    (q.0, q.1, p.1)

-- A loop that walks along the rows of a bundle, each read where it begins.
pub record RowsWalked {S : Type 0} (wrong : S → Row → Bool) (next : S → Row → S) (b : List ℕ) (n : ℕ) (s₀ : S) (i : ℕ) (s : S) (found : Bool) : Type 0 where
  pub inside : i ≤ n
  pub walked : StateWalked wrong next (rows_of n (drop 2 b)) s₀ i s found

module _ {S : Type 0} {wrong : S → Row → Bool} {next : S → Row → S} {b : List ℕ} {n : ℕ} {s₀ : S} where
  pub rows_none : RowsWalked wrong next b n s₀ 0 s₀ false
  rows_none = record { inside = zero-le; walked = walked_none }

  pub rows_next : {i : ℕ} {s : S} {found : Bool} {r : Row}
      → RowsWalked wrong next b n s₀ i s found → i < n → r ≡ row_of (drop (2 + 12 * i) b)
      → RowsWalked wrong next b n s₀ (i + 1) (next s r) (found || wrong s r)
  rows_next {i} {s} {found} {r} g h e = record {
    inside = omega arith;
    walked =
        rw (e ∙ sym (row_at_lem n i (drop 2 b) h ∙ ap row_of (drop-drop (12 * i) 2 b)))
        (walked_next blank_row g.walked (omega (arith, length_rows n (drop 2 b))));
  }

  pub rows_found : {i : ℕ} {s : S} {found : Bool} → RowsWalked wrong next b n s₀ i s found → n ≤ i → found ≡ some_wrong wrong next s₀ (rows_of n (drop 2 b))
  rows_found g h = walked_found g.walked (omega (arith, length_rows n (drop 2 b)))

  pub rows_end : {i : ℕ} {s : S} {found : Bool} → RowsWalked wrong next b n s₀ i s found → n ≤ i → s ≡ end_of next s₀ (rows_of n (drop 2 b))
  rows_end g h = walked_end g.walked (omega (arith, length_rows n (drop 2 b)))
