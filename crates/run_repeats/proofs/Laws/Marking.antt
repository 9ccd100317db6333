-- The loop that marks the rows of an accepted bundle.
use Prim.Native.Nat.{ℕ, ◌+◌, ◌≤◌, ◌<◌, zero-le}
use mathlib.Core.List.{List}
use mathlib.Core.Path.{◌≡◌, refl, subst, sym, ◌∙◌}
use native.Mathlib.Omega.{arith}
use borrow.Author.Tests.{eqb-true, eqb-false}
use lib.Dec.{eqb}
use lib.ListN.{length, get_or, set, replicate, length-set}
use lib.Seq.{get_or-set_same, get_or-set_other}
use Rattle.base_rules.specs.Answers.{reads}
use Rattle.base_rules.proofs.Laws.Tests.{by_test}
use Rattle.bundle_rows.specs.Rows.{most_rows}
use Rattle.bundle_check.specs.Bundles.{check_of}
use Rattle.bundle_check.proofs.Laws.BodyLaws.{few_rows}
use Rattle.run_counting.specs.Ears.{row_in}
use Rattle.run_repeats.specs.Marks.{row_mark, Marked}

-- so many rows are marked
pub record Marking (b : List ℕ) (n i : ℕ) (marks : List ℕ) : Type 0 where
  pub accepted : check_of b ≡ reads n
  pub inside : i ≤ n
  pub places : length marks ≡ most_rows
  pub so : (j : ℕ) → j < i → get_or marks j 0 ≡ row_mark (row_in b j)

module _ {b : List ℕ} {n : ℕ} where
  pub marking_none : check_of b ≡ reads n → Marking b n 0 (replicate most_rows 0)
  marking_none e = record { accepted = e; inside = zero-le; places = refl; so = λ j h. absurd (omega arith) }

  module _ {i : ℕ} {marks : List ℕ} (g : Marking b n i marks) where
    pub marking_room : i < n → i < most_rows
    marking_room h = omega (arith, few_rows b n g.accepted)

    pub marking_next : i < n → {mark : ℕ} → mark ≡ row_mark (row_in b i) → Marking b n (i + 1) (set marks i mark)
    marking_next h {mark} e = record {
      accepted = g.accepted;
      inside = omega arith;
      places = length-set marks i mark ∙ g.places;
      so = λ j k.
          by_test (eqb j i)
          (λ q. subst (λ (m : ℕ). get_or (set marks i mark) m 0 ≡ row_mark (row_in b m)) (sym (eqb-true j i q))
          (get_or-set_same marks i mark 0 (omega (arith, marking_room h, g.places)) ∙ e))
          (λ q. get_or-set_other marks i j mark 0 (eqb-false j i q) ∙ g.so j (let other = eqb-false j i q in omega arith));
    }

    pub marking_all : n ≤ i → Marked b n marks
    marking_all h = record { accepted = g.accepted; places = g.places; so = λ j k. g.so j (omega arith) }
