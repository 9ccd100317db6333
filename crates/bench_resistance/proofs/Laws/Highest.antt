-- Laws of the other way round: what is answered is the highest hundredth whose answer is not above, and it gives a temperature back.
use Prim.Native.Nat.{ℕ, zero, suc, ◌<◌, ◌≤◌, zero-le}
use mathlib.Core.Logic.{⊎_elim}
use mathlib.Core.Path.{◌≡◌}
use native.Mathlib.Nat.{not-le_of_lt, le_antisymm, eq-or-lt_of_le, le_of_suc-le-suc}
use native.Mathlib.Decide.{dec_lt}
use native.Mathlib.Omega.{arith}
use borrow.Author.Tests.{leb-true, leb-false}
use lib.Dec.{leb}
use Rattle.base_rules.proofs.Laws.Tests.{by_test}
use Rattle.bench_resistance.specs.Resistances.{resistance, highest, hundredths_most}
use Rattle.bench_resistance.proofs.Laws.Lines.{resistance_climbs}

-- a hundredth is the highest one up to a most whose answer is not above a resistance
pub record Highest (milliohm most h : ℕ) : Type 0 where
  pub inside : h ≤ most
  pub «not-above» : resistance h ≤ milliohm
  pub «none-higher» : (k : ℕ) → k ≤ most → resistance k ≤ milliohm → k ≤ h

-- where the answer for one more is above
module _ {milliohm most h : ℕ} (above : milliohm < resistance (suc most)) (p : Highest milliohm most h) where
  higher : (k : ℕ) → k ≤ suc most → resistance k ≤ milliohm → k ≤ h
  higher k l n =
      ⊎_elim (λ e. absurd (not-le_of_lt above (rw e at n))) (λ m. p.«none-higher» k (le_of_suc-le-suc m) n)
      (eq-or-lt_of_le l)

  further : Highest milliohm (suc most) h
  further = record { inside = omega (arith, p.inside); «not-above» = p.«not-above»; «none-higher» = higher }

pub highest_is : (milliohm most : ℕ) → resistance 0 ≤ milliohm → Highest milliohm most (highest milliohm most)
unfolding highest
highest_is milliohm zero first = record { inside = zero-le; «not-above» = first; «none-higher» = λ k l n. l }
highest_is milliohm (suc most) first =
    by_test (leb (resistance (suc most)) milliohm)
    (λ e. rw e (record { inside = omega arith; «not-above» = leb-true (resistance (suc most)) milliohm e; «none-higher» = λ k l n. l }))
    (λ e. rw e (further (leb-false (resistance (suc most)) milliohm e) (highest_is milliohm most first)))

-- nothing else is it, and a hundredth is it where the next one's answer is above
pub highest_only : {milliohm most h : ℕ} → resistance 0 ≤ milliohm → Highest milliohm most h → highest milliohm most ≡ h
highest_only {milliohm} {most} {h} first p =
    let q = highest_is milliohm most first in
    le_antisymm (p.«none-higher» (highest milliohm most) q.inside q.«not-above») (q.«none-higher» h p.inside p.«not-above»)

pub highest_next : (milliohm h : ℕ) → h ≤ hundredths_most → resistance h ≤ milliohm → (h < hundredths_most → milliohm < resistance (suc h))
    → Highest milliohm hundredths_most h
highest_next milliohm h l n above = record { inside = l; «not-above» = n; «none-higher» = none }
  where
    none : (k : ℕ) → k ≤ hundredths_most → resistance k ≤ milliohm → k ≤ h
    none k m b = go (dec_lt h k)
      where
        go : Dec (h < k) → k ≤ h
        go (yes g) =
            let up : resistance (suc h) ≤ resistance k = resistance_climbs (suc h) k g m in
            absurd (omega (arith, above (omega arith)))
        go (no g) = omega arith
