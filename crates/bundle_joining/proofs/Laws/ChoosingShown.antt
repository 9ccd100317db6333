-- Laws of `specs/Shown`: what choosing answers by the tests of the bundle, of the position and of the room.
use Prim.Native.Nat.{ℕ}
use mathlib.Core.Bool.{true, false}
use mathlib.Core.List.{List}
use mathlib.Core.Path.{◌≡◌, sym, ap, ◌∙◌}
use lib.Dec.{ltb}
use lib.ListN.{length}
use Rattle.base_rules.specs.Answers.{Answer, reads, refusal}
use Rattle.base_lent.specs.Copying.{laid}
use Rattle.bundle_rows.specs.Fields.{wrong_position}
use Rattle.bundle_check.specs.Bundles.{check_of}
use Rattle.std.specs.Prelude.{Ok, Err}
use Rattle.base_rules.specs.Shown.{shown, refused_by}
use Rattle.bundle_joining.specs.Choosing.{position_bundle, choosing_of}
use Rattle.bundle_joining.specs.ChoosingShown.{buffer_chosen, Chooses}

module _ (b : List ℕ) (position : ℕ) (out : List ℕ) where
  by_number : (n : ℕ) → choosing_of b position out ≡ refusal n → Chooses b position out (Err (refused_by n)) out
  by_number n e = record { answer = rw e; left = rw e }

  -- the check's refusal
  pub choosing_refused : (n : ℕ) → check_of b ≡ refusal n → Chooses b position out (Err (refused_by n)) out
  unfolding choosing_of
  choosing_refused n e = by_number n (rw e)

  module _ (n : ℕ) (e : check_of b ≡ reads n) where
    pub choosing_outside : wrong_position position ≡ true → Chooses b position out (Err (refused_by 34)) out
    unfolding choosing_of
    choosing_outside w = by_number 34 (rw (e, w))

    module _ (w : wrong_position position ≡ false) {filled : ℕ} (f : length (position_bundle position b) ≡ filled) where
      pub choosing-short : ltb (length out) filled ≡ true → Chooses b position out (Err (refused_by 38)) out
      unfolding choosing_of
      choosing-short h = by_number 38 (rw (e, w, f, h))

      pub choosing-reads : ltb (length out) filled ≡ false → choosing_of b position out ≡ reads filled
      unfolding choosing_of
      choosing-reads h = rw (e, w, f, h)

      pub choosing-done : ltb (length out) filled ≡ false → {after : List ℕ} → after ≡ laid out 0 (position_bundle position b)
          → Chooses b position out (Ok filled) after
      choosing-done h l = record {
        answer = ap shown (sym (choosing-reads h));
        left = l ∙ ap (λ (a : Answer ℕ). buffer_chosen a b position out) (sym (choosing-reads h));
      }
