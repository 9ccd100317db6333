-- Laws of `specs/Shown`: what joining answers by the tests of both bundles and of the room.
use Prim.Native.Nat.{ℕ, ◌+◌}
use mathlib.Core.Bool.{true, false}
use mathlib.Core.List.{List}
use mathlib.Core.Path.{◌≡◌, sym, ap, ◌∙◌}
use lib.ListN.{length}
use Rattle.base_rules.specs.Answers.{Answer, reads, refusal}
use Rattle.base_lent.specs.Copying.{laid}
use Rattle.bundle_check.specs.Bundles.{check_of}
use Rattle.std.specs.Prelude.{Ok, Err}
use Rattle.base_rules.specs.Shown.{shown, refused_by}
use Rattle.bundle_joining.specs.Joining.{joined_bundle, too_much, join_of}
use Rattle.bundle_joining.specs.JoinShown.{buffer_joined, Joins}

module _ (a b out : List ℕ) where
  by_number : (n : ℕ) → join_of a b out ≡ refusal n → Joins a b out (Err (refused_by n)) out
  by_number n e = record { answer = rw e; left = rw e }

  -- the refusal of the first bundle, and else of the second
  pub first_refused : (n : ℕ) → check_of a ≡ refusal n → Joins a b out (Err (refused_by n)) out
  unfolding join_of
  first_refused n e = by_number n (rw e)

  module _ (m : ℕ) (first : check_of a ≡ reads m) where
    pub second_refused : (n : ℕ) → check_of b ≡ refusal n → Joins a b out (Err (refused_by n)) out
    unfolding join_of
    second_refused n e = by_number n (rw (first, e))

    module _ (n : ℕ) (second : check_of b ≡ reads n) {filled : ℕ} (f : length (joined_bundle a b) ≡ filled) where
      pub join-full : too_much (m + n) filled out ≡ true → Joins a b out (Err (refused_by 38)) out
      unfolding join_of
      join-full h = by_number 38 (rw (first, second, f, h))

      pub join-reads : too_much (m + n) filled out ≡ false → join_of a b out ≡ reads filled
      unfolding join_of
      join-reads h = rw (first, second, f, h)

      pub join-done : too_much (m + n) filled out ≡ false → {after : List ℕ} → after ≡ laid out 0 (joined_bundle a b) → Joins a b out (Ok filled) after
      join-done h l = record {
        answer = ap shown (sym (join-reads h));
        left = l ∙ ap (λ (r : Answer ℕ). buffer_joined r a b out) (sym (join-reads h));
      }
