-- Which rows a sweep removes.
use Prim.Native.Nat.{ℕ, ◌<◌}
use mathlib.Core.Bool.{true, false, not, true≢false, or-true, and-false, and-eq-true_iff}
use mathlib.Core.Path.{◌≡◌, sym, ◌∙◌}
use native.Mathlib.Omega.{arith}
use borrow.Author.Tests.{eq-eqb, ne_eqb, eqb-true, not-true}
use lib.Dec.{eqb}
use Rattle.base_characters.specs.Characters.{chars}
use Rattle.base_rules.proofs.Laws.Tests.{by_test}
use Rattle.bench_clock.specs.Wakes.{is_wake}
use Rattle.bundle_check.specs.Records.{Recorded}
use Rattle.bundle_sweep.specs.Sweeping.{goes, removed}

module _ (position : ℕ) (k : Recorded) where
  pub wake_goes : is_wake (chars k.body) ≡ true → removed position k ≡ true
  unfolding goes
  wake_goes e = rw e

  pub named_goes : 0 < position → k.position ≡ position → removed position k ≡ true
  unfolding goes
  named_goes h e = rw (ne_eqb position 0 (omega arith), eq-eqb k.position position e) (or-true (is_wake (chars k.body)))

  pub other_stays : is_wake (chars k.body) ≡ false → (k.position ≡ position → position ≡ 0) → removed position k ≡ false
  unfolding goes
  other_stays e f =
      by_test (eqb k.position position)
      (λ t. rw (e, eq-eqb position 0 (f (eqb-true k.position position t))))
      (λ t. rw (e, t) (and-false (not (eqb position 0))))

  -- a row that goes and is no wake-up is one of the named position
  pub goes_named : removed position k ≡ true → is_wake (chars k.body) ≡ false → (position ≡ 0 → ⊥) × (k.position ≡ position)
  unfolding goes
  goes_named e w =
      let p = (and-eq-true_iff (not (eqb position 0)) (eqb k.position position)).0 (rw w at e) in
      (λ z. true≢false (sym (eq-eqb position 0 z) ∙ not-true (eqb position 0) p.0), eqb-true k.position position p.1)
