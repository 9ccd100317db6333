-- Laws of `specs/Walking`.
use Prim.Native.Nat.{ℕ, ◌+◌, ◌*◌, ◌≤◌, ◌<◌}
use mathlib.Core.Bool.{Bool, false, ◌||◌}
use mathlib.Core.List.{List}
use mathlib.Core.Path.{◌≡◌, ◌∙◌}
use native.Mathlib.Omega.{arith}
use lib.ListN.{length}
use Rattle.bundle_rows.specs.declared.Row.{Row}
use Rattle.bundle_rows.specs.Rows.{most_rows, first_offset, unchecked_row}
use Rattle.bundle_rows.proofs.Laws.RowLaws.{row_in}
use Rattle.bundle_check.specs.RowRules.{wrong_row, row_time, next_offset, wrong_place}
use Rattle.bundle_check.proofs.Laws.RowRules.{RowsWalked, rows_none, rows_next, rows_found, rows_end}
use Rattle.bundle_check.specs.Walking.{walk_of}

-- A loop that walks along the rows with the time of the row before and the place where the next body must begin.
pub record Along (b : List ℕ) (n i before at : ℕ) (field place : Bool) : Type 0 where
  pub few : n ≤ most_rows
  pub whole : first_offset n ≤ length b
  pub fields : RowsWalked wrong_row row_time b n 0 i before field
  pub places : RowsWalked (wrong_place (length b)) next_offset b n (first_offset n) i at place
  pub near : at ≤ first_offset n + 65535 * i

module _ {b : List ℕ} {n : ℕ} where
  pub along_none : n ≤ most_rows → first_offset n ≤ length b → Along b n 0 0 (first_offset n) false false
  along_none f w = record { few = f; whole = w; fields = rows_none; places = rows_none; near = omega arith }

  pub along_next : {i before at : ℕ} {field place : Bool} {r : Row} → Along b n i before at field place → i < n → r ≡ unchecked_row b i → r.length ≤ 65535
      → Along b n (i + 1) r.time (at + r.length) (field || wrong_row before r) (place || wrong_place (length b) at r)
  along_next {i} g h e s =
      let f = g.few in
      let w = g.whole in
      let near = g.near in
      let there = e ∙ row_in b i (omega arith) (omega arith) in
      record {
        few = f;
        whole = w;
        fields = rows_next g.fields h there;
        places = rows_next g.places h there;
        near = omega arith;
      }

  pub along_all : {i before at : ℕ} {field place : Bool} → Along b n i before at field place → n ≤ i
      → record { field = field; place = place; end = at } ≡ walk_of n b
  along_all g h = rw (rows_found g.fields h, rows_found g.places h, rows_end g.places h)
