-- Laws of `specs/Shown`, and what a sweep answers by the tests of the bundle and of the position.
use Prim.Native.Nat.{ℕ, ◌≤◌}
use mathlib.Core.Bool.{true, false}
use mathlib.Core.List.{List, ◌++◌}
use mathlib.Core.Path.{◌≡◌, sym, ap, ◌∙◌}
use native.Mathlib.Omega.{arith}
use borrow.Author.Tests.{le-ltb}
use lib.Dec.{ltb}
use lib.ListN.{length, take, drop, take-append-drop}
use lib.Seq.{length-take-le}
use Rattle.base_rules.specs.Answers.{Answer, reads, refusal}
use Rattle.base_lent.specs.Copying.{laid}
use Rattle.bundle_check.specs.Bundles.{check_of}
use Rattle.std.specs.Prelude.{Ok, Err}
use Rattle.base_rules.specs.Shown.{shown, refused_by}
use Rattle.bundle_sweep.specs.Sweeping.{swept_bundle, sweep_of, buffer_swept}
use Rattle.bundle_sweep.specs.Shown.{Sweeps}
use Rattle.bundle_sweep.proofs.Laws.Laid.{laid_append}
use Rattle.bundle_sweep.proofs.Laws.NewBundle.{new_fits}

module _ (buffer : List ℕ) (filled position : ℕ) where
  by_number : (n : ℕ) → sweep_of buffer filled position ≡ refusal n → Sweeps buffer filled position (Err (refused_by n)) buffer
  by_number n e = record { answers = rw e; leaves = rw e }

  -- past the buffer
  pub sweep_past : ltb (length buffer) filled ≡ true → Sweeps buffer filled position (Err (refused_by 30)) buffer
  unfolding sweep_of
  sweep_past p = by_number 30 (rw p)

  module _ (h : filled ≤ length buffer) where
    -- the check's refusal
    pub sweep_refused : (n : ℕ) → check_of (take filled buffer) ≡ refusal n → Sweeps buffer filled position (Err (refused_by n)) buffer
    unfolding sweep_of
    sweep_refused n e = by_number n (rw (le-ltb (length buffer) filled h, e))

    module _ (n : ℕ) (e : check_of (take filled buffer) ≡ reads n) where
      pub sweep-outside : ltb 48 position ≡ true → Sweeps buffer filled position (Err (refused_by 34)) buffer
      unfolding sweep_of
      sweep-outside p = by_number 34 (rw (le-ltb (length buffer) filled h, e, p))

      pub sweep-reads : ltb 48 position ≡ false → sweep_of buffer filled position ≡ reads (length (swept_bundle position (take filled buffer)))
      unfolding sweep_of
      sweep-reads p = rw (le-ltb (length buffer) filled h, e, p)

      -- what the part of the buffer holds, and behind it what stood there
      pub sweep-done : ltb 48 position ≡ false → {end : ℕ} {part : List ℕ} → end ≡ length (swept_bundle position (take filled buffer))
          → part ≡ laid (take filled buffer) 0 (swept_bundle position (take filled buffer))
          → Sweeps buffer filled position (Ok end) (part ++ drop filled buffer)
      sweep-done p {end} {part} f g =
          let old : List ℕ = take filled buffer in
          let new : List ℕ = swept_bundle position old in
          let size : length old ≡ filled = length-take-le filled buffer h in
          record {
            answers = ap Ok f ∙ ap shown (sym (sweep-reads p));
            leaves =
                ap (λ (l : List ℕ). l ++ drop filled buffer) g
                ∙ sym (laid_append old (drop filled buffer) 0 new (omega (arith, new_fits position old n e)))
                ∙ ap (λ (l : List ℕ). laid l 0 new) (take-append-drop filled buffer)
                ∙ ap (λ (a : Answer ℕ). buffer_swept a buffer filled position) (sym (sweep-reads p));
          }
