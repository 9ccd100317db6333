-- The error by C.1 from figures: what the tests leave of them, and that a volume over 10^9 ml may stand as 10^9 + 1.
use Prim.Native.Nat.{ℕ, ◌*◌, ◌-◌, ◌≤◌, ◌<◌}
use mathlib.Core.Bool.{Bool, true, false, ◌||◌}
use mathlib.Core.List.{[], ◌∷◌}
use mathlib.Core.Path.{◌≡◌, refl, ap₂, ◌∙◌}
use native.Mathlib.Nat.{mul-le-mul, mul-pos}
use native.Mathlib.Omega.{arith}
use borrow.Author.Tests.{ltb-true, ltb-false, lt-ltb, le-ltb, eqb-false, ne_eqb, leb-false}
use lib.Dec.{ltb, leb, eqb}
use lib.IntN.{ℤ, pos, ◌-ℤ◌, ◌*ℤ◌}
use Rattle.base_rules.specs.Answers.{reads}
use Rattle.base_rules.proofs.Laws.Tests.{neither, passed}
use Rattle.base_rules.proofs.Laws.AnswerLaws.{reads_same}
use Rattle.base_rules.proofs.Laws.TestLaws.{none}
use Rattle.base_numbers.specs.Rounding.{Nearest}
use Rattle.bench_indication.proofs.Laws.Errors.{tenths_nearest}
use Rattle.bench_indication.specs.Errors.{rise_most, rise_error_of}
use Rattle.run_replay.specs.Errors.{volume_most, volume_over, interval_most, wrong_interval, error_by_c1, error_of_figures}
use Rattle.run_replay.specs.Shown.{capped_volume}

-- ---- what 64 and 65 leave

interval_right : (t : ℕ) → wrong_interval t ≡ false → (0 < t) × (t ≤ interval_most)
interval_right t e =
    let p = neither (eqb t 0) (ltb interval_most t) e in
    (omega (arith, eqb-false t 0 p.0), ltb-false interval_most t p.1)

module _ (v1 v2 s1 s2 : ℕ) (e : volume_over v1 v2 s1 s2 ≡ false) where
  volumes_right : (v1 ≤ volume_most) × (v2 ≤ volume_most) × (s1 ≤ volume_most) × (s2 ≤ volume_most)
  volumes_right =
      let p = none (ltb volume_most v1) (ltb volume_most v2 ∷ ltb volume_most s1 ∷ ltb volume_most s2 ∷ []) e in
      (ltb-false volume_most v1 p.0, ltb-false volume_most v2 p.1.0, ltb-false volume_most s1 p.1.1.0, ltb-false volume_most s2 p.1.1.1.0)

  module _ (elapsed meter : ℕ) (f : (wrong_interval elapsed || wrong_interval meter) ≡ false) where
    intervals_right : (0 < elapsed) × (elapsed ≤ interval_most) × (0 < meter) × (meter ≤ interval_most)
    intervals_right =
        let p = neither (wrong_interval elapsed) (wrong_interval meter) f in
        let x = interval_right elapsed p.0 in
        let y = interval_right meter p.1 in
        (x.0, x.1, y.0, y.1)

    pub meter_fits : (v2 - v1) * elapsed ≤ rise_most
    meter_fits =
        let low : v2 - v1 ≤ 1000000000 = omega (arith, volumes_right) in
        let short : elapsed ≤ 1800000 = omega (arith, intervals_right) in
        mul-le-mul low short

    pub standard_fits : (s2 - s1) * meter ≤ rise_most
    standard_fits =
        let low : s2 - s1 ≤ 1000000000 = omega (arith, volumes_right) in
        let short : meter ≤ 1800000 = omega (arith, intervals_right) in
        mul-le-mul low short

    standard_rises : s1 < s2 → 0 < (s2 - s1) * meter
    standard_rises h =
        let rise : 0 < s2 - s1 = omega arith in
        mul-pos rise intervals_right.2

    -- the error of the products is that of rises
    pub rises_told : s1 < s2 → rise_error_of ((v2 - v1) * elapsed) ((s2 - s1) * meter) ≡ reads (error_by_c1 v1 v2 s1 s2 elapsed meter)
    rises_told h =
        let x : ℕ = (v2 - v1) * elapsed in
        let y : ℕ = (s2 - s1) * meter in
        rw (le-ltb rise_most x meter_fits, le-ltb rise_most y standard_fits, ne_eqb y 0 (λ z. omega (arith, standard_rises h)))

-- An error that is given is the nearest one.
pub error_nearest : (v1 v2 s1 s2 elapsed meter : ℕ) (e : ℤ) → error_of_figures v1 v2 s1 s2 elapsed meter ≡ reads e
    → Nearest (pos 1000 *ℤ (pos ((v2 - v1) * elapsed) -ℤ pos ((s2 - s1) * meter))) ((s2 - s1) * meter) e
unfolding error_of_figures
error_nearest v1 v2 s1 s2 elapsed meter e h =
    let over = passed 64 (volume_over v1 v2 s1 s2) _ e h in
    let wrong = passed 65 (wrong_interval elapsed || wrong_interval meter) _ e over.1 in
    let falls = passed 61 (ltb v2 v1) _ e wrong.1 in
    let stays = passed 62 (leb s2 s1) _ e falls.1 in
    let same : error_by_c1 v1 v2 s1 s2 elapsed meter ≡ e = reads_same stays.1 in
    let some = standard_rises v1 v2 s1 s2 over.0 elapsed meter wrong.0 (leb-false s2 s1 stays.0) in
    rw (← same) (tenths_nearest ((v2 - v1) * elapsed) ((s2 - s1) * meter) some)

-- ---- a volume that is not computed

over_same : (v : ℕ) → ltb volume_most (capped_volume v) ≡ ltb volume_most v
over_same v = go (ltb volume_most v) refl
  where
    go : (t : Bool) → ltb volume_most v ≡ t → ltb volume_most (capped_volume v) ≡ t
    go true e = lt-ltb volume_most (capped_volume v) (omega (arith, ltb-true volume_most v e))
    go false e = le-ltb volume_most (capped_volume v) (omega (arith, ltb-false volume_most v e))

pub capped_same : (v1 v2 s1 s2 elapsed meter : ℕ)
    → error_of_figures (capped_volume v1) (capped_volume v2) s1 s2 elapsed meter ≡ error_of_figures v1 v2 s1 s2 elapsed meter
unfolding error_of_figures
capped_same v1 v2 s1 s2 elapsed meter = go (volume_over v1 v2 s1 s2) refl
  where
    same : volume_over (capped_volume v1) (capped_volume v2) s1 s2 ≡ volume_over v1 v2 s1 s2
    same = ap₂ (λ (a b : Bool). a || b || ltb volume_most s1 || ltb volume_most s2) (over_same v1) (over_same v2)

    go : (t : Bool) → volume_over v1 v2 s1 s2 ≡ t
        → error_of_figures (capped_volume v1) (capped_volume v2) s1 s2 elapsed meter ≡ error_of_figures v1 v2 s1 s2 elapsed meter
    go true e = rw (same ∙ e, e)
    go false e =
        let p = volumes_right v1 v2 s1 s2 e in
        let first : capped_volume v1 ≡ v1 = omega arith in
        let second : capped_volume v2 ≡ v2 = omega arith in
        ap₂ (λ (a b : ℕ). error_of_figures a b s1 s2 elapsed meter) first second
