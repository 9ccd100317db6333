-- A loop that skips FE bytes.
use Rattle.std.proofs.Common.{◌≡◌, ℕ, zero, suc, ◌+◌, ◌-◌, ◌*◌, ◌%◌, ◌<◌, ◌≤◌, ltb, ◌≢◌, List, [], ◌∷◌, length, drop, sym, refl, ap, subst, ◌∙◌, zero-le, add-one, arith, get_or-drop, drop-cons, ltb-false, ltb-true, ne_eqb}
use lib.ListN.{get_or-eq_default}
use Rattle.base_rules.specs.Lists.{at, total}
use Rattle.base_rules.proofs.Laws.Tests.{by_test}
use Rattle.cjt_rules.specs.CjtFrames.{past_fe}
use Rattle.cjt_rules.proofs.Laws.FrontLaws.{past_nothing}
use Rattle.cjt_reading.specs.CjtParts.{Skips}

pub record Skipping (b : List ℕ) (n : ℕ) : Type 0 where
  pub few : n ≤ 5
  pub inside : n ≤ length b
  pub left : past_fe (5 - n) (drop n b) ≡ past_fe 5 b
  pub sum : total b ≡ 0xFE * n + total (drop n b)

pub skipping_none : {b : List ℕ} → Skipping b 0
skipping_none = record { few = zero-le; inside = zero-le; left = refl; sum = omega arith }

module _ {b : List ℕ} {n : ℕ} (k : Skipping b n) where
  -- a byte that is there
  there : {x : ℕ} → x ≡ at b n → x ≡ 0xFE → n < length b
  there e f =
      by_test (ltb n (length b)) (ltb-true n (length b))
      (λ h. absurd (omega (arith, e, f, get_or-eq_default b 0 (ltb-false n (length b) h))))

  pub skipping_next : n < 5 → {x : ℕ} → x ≡ at b n → x ≡ 0xFE → Skipping b (n + 1)
  unfolding past_fe total
  skipping_next h {x} e f =
      let inside : n < length b = there e f in
      let cons : drop n b ≡ at b n ∷ drop (suc n) b = drop-cons b n 0 inside in
      let fe : at b n ≡ 0xFE = sym e ∙ f in
      let one : 5 - n ≡ suc (5 - suc n) = omega arith in
      let passed : past_fe (5 - n) (drop n b) ≡ past_fe (5 - suc n) (drop (suc n) b) = rw (one, cons, fe) in
      rw add-one (record {
        few = omega arith;
        inside = omega arith;
        left = sym passed ∙ k.left;
        sum = k.sum ∙ ap (λ (l : List ℕ). 0xFE * n + total l) cons ∙ rw fe (omega arith);
      })

  stays : (left : ℕ) (l : List ℕ) → at l 0 ≢ 0xFE → past_fe left l ≡ l
  unfolding past_fe
  stays left [] h = nothing left
    where
      nothing : (left : ℕ) → past_fe left [] ≡ []
      nothing zero = refl
      nothing (suc left) = refl
  stays left (x ∷ l) h = past_nothing left x l (ne_eqb x 0xFE h)

  pub skipping_other : {x : ℕ} → x ≡ at b n → x ≢ 0xFE → Skips b n
  skipping_other {x} e h =
      let first : at (drop n b) 0 ≡ at b n = get_or-drop n b 0 0 ∙ ap (at b) (omega arith) in
      record {
        few = k.few;
        inside = k.inside;
        same = sym (stays (5 - n) (drop n b) (λ f. h (e ∙ sym first ∙ f))) ∙ k.left;
        sum = k.sum;
      }

  pub skipping_all : 5 ≤ n → Skips b 5
  unfolding past_fe
  skipping_all h =
      let none : 5 - n ≡ 0 = omega (arith, k.few) in
      let all : n ≡ 5 = omega (arith, k.few) in
      subst (Skips b) all
      (record { few = k.few; inside = k.inside; same = sym (ap (λ (j : ℕ). past_fe j (drop n b)) none) ∙ k.left; sum = k.sum })

-- the sum without the FE bytes, as the code adds it up
pub own_sum : {b : List ℕ} {n sum own : ℕ} → Skips b n → sum ≡ total b % 256 → own ≡ (sum + 2 * n) % 256 → own ≡ total (drop n b) % 256
own_sum {b} {n} s e o = omega (arith, s.sum, e, o)
