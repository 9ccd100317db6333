-- Laws of `specs/Recorded`.
use Prim.Native.Nat.{ℕ}
use mathlib.Core.Bool.{Bool, true, false, not}
use mathlib.Core.List.{List}
use mathlib.Core.Path.{◌≡◌, sym, ap, ◌∙◌}
use borrow.Author.Tests.{not-false}
use lib.ListN.{length}
use Rattle.base_rules.specs.Answers.{reads, refusal}
use Rattle.base_rules.proofs.Laws.Tests.{passed}
use Rattle.base_lent.specs.Same.{same}
use Rattle.base_lent.proofs.Laws.Same.{same_equal, same_itself, same_not}
use Rattle.base_lent.specs.Recorded.{no_record, recorded}

-- Laws: what is written for a value is read as that value, where it can be taken from its bytes again; and what is read was written.
module _ {A : Type 0} (written : A → List ℕ) (taken : List ℕ → A) where
  pub record_read : (a : A) → taken (written a) ≡ a → recorded written taken (written a) ≡ reads a
  record_read a e =
      let again : same (written a) (written (taken (written a))) ≡ true = rw e (same_itself (written a)) in
      rw (again, e)

  pub record_written : (b : List ℕ) (a : A) → recorded written taken b ≡ reads a → written a ≡ b
  record_written b a e =
      let p = passed no_record (not (same b (written (taken b)))) (reads (taken b)) a e in
      let q : reads (taken b) ≡ reads a = p.1 in
      let r : taken b ≡ a = cc in
      sym (same_equal b (written (taken b)) (not-false _ p.0) ∙ ap written r)

  -- as a program finds it: by the value that it took, the bytes that it wrote for it, and whether they are the same
  module _ (b : List ℕ) {a : A} {w : List ℕ} {r : Bool} (t : a ≡ taken b) (n : w ≡ written a) (e : r ≡ same b w) where
    same_again : same b (written (taken b)) ≡ r
    same_again = sym (e ∙ ap (same b) (n ∙ ap written t))

    pub record_same : r ≡ true → recorded written taken b ≡ reads a
    record_same y = rw (same_again, y) (ap reads (sym t))

    pub record_differs : r ≡ false → recorded written taken b ≡ refusal no_record
    record_differs y = rw (same_again, y)

  -- a record has the size of what is written
  pub wrong_size : (k : ℕ) → ((a : List ℕ) → length (written (taken a)) ≡ k) → (b : List ℕ) → (length b ≡ k → ⊥) → recorded written taken b ≡ refusal no_record
  wrong_size k size b h =
      let other : same b (written (taken b)) ≡ false = same_not b (written (taken b)) (λ e. h (ap length e ∙ size b)) in
      rw other
