-- Laws of what a function for C answers and leaves: nothing where it refuses, and else what is written, in the first places.
use Prim.Native.Nat.{ℕ, ◌+◌, ◌≤◌}
use mathlib.Core.Bool.{true}
use mathlib.Core.List.{List}
use mathlib.Core.Path.{◌≡◌, refl, ap, ◌∙◌}
use native.Mathlib.Nat.{zero-add}
use lib.Dec.{ltb}
use lib.ListN.{length}
use Rattle.base_rules.specs.Answers.{Answer, reads, refusal}
use Rattle.base_lent.specs.Copying.{copied}
use Rattle.base_lent.proofs.Laws.Copying.{copied_fits}
use Rattle.base_lent.specs.Lent.{stored, Leaves}

-- nothing is copied to the first place where there are too few
pub none_copied : {B : Type 0} (out w : List B) → ltb (length out) (length w) ≡ true → copied out 0 w ≡ out
none_copied out w h = rw (zero-add (length w), h)

module _ {A B : Type 0} (written : A → List B) (before : List B) where
  -- what is copied to the first place, where there is room
  pub all_copied : (x : A) {w after : List B} → w ≡ written x → length w ≤ length before → after ≡ copied before 0 w → after ≡ stored written before (reads x)
  all_copied x {w} d h l =
      let fits : 0 + length (written x) ≤ length before = rw zero-add (rw d at h) in
      l ∙ ap (copied before 0) d ∙ copied_fits before 0 (written x) fits

  module _ (number : A → ℕ) {a : Answer A} where
    pub leaves_all : {n : ℕ} → a ≡ refusal n → Leaves number written a before before (256 + n)
    leaves_all e = rw e (record { answer = refl; left = refl })

    pub leaves_copied : {x : A} {w after : List B} {r : ℕ} → a ≡ reads x → w ≡ written x → length w ≤ length before → after ≡ copied before 0 w → r ≡ number x
        → Leaves number written a before after r
    leaves_copied {x} e d h l n = rw e (record { answer = n; left = all_copied x d h l })
