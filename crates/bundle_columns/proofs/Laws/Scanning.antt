-- Laws of a scan: what stands in front of the first element that passes a test.
use Prim.Native.Nat.{ℕ, zero, suc, ◌+◌, ◌-◌, ◌≤◌, ◌<◌}
use mathlib.Core.Bool.{Bool, true, false}
use mathlib.Core.List.{List, [], ◌∷◌}
use mathlib.Core.Path.{◌≡◌, refl, sym, ap, ◌∙◌}
use native.Mathlib.Nat.{not-suc-le-zero}
use native.Mathlib.Omega.{arith}
use borrow.Author.Tests.{le-leb}
use lib.Dec.{leb, eqb}
use lib.ListN.{length, take, drop, length-drop}
use lib.Seq.{drop-drop}
use Rattle.base_rules.specs.Lists.{any}
use Rattle.base_rules.specs.Answers.{reads, refusal, refuse}
use Rattle.base_rules.proofs.Laws.Tests.{neither}
use Rattle.bundle_columns.specs.Lookups.{is_position, in_front, first_from}
use Rattle.bundle_columns.specs.Scanning.{Passed}

module _ {A : Type 0} (test : A → Bool) where
  -- places without such an element are passed over
  pub front_passed : (k : ℕ) (s : List A) → k ≤ length s → any test (take k s) ≡ false → in_front test s ≡ k + in_front test (drop k s)
  unfolding in_front any
  front_passed zero s h e = omega arith
  front_passed (suc k) [] h e = absurd (not-suc-le-zero h)
  front_passed (suc k) (x ∷ s) h e =
      let p = neither (test x) (any test (take k s)) e in
      rw p.0 (omega (arith, front_passed k s (omega arith) p.1))

-- ---- the loops
module _ {s : List ℕ} {position from : ℕ} where
  pub passed_none : from ≤ length s → Passed s position from from
  passed_none h = record { inside = h; onward = omega arith; so = refl }

  module _ {i : ℕ} (g : Passed s position from i) where
    pub passed_block : (k : ℕ) → k ≤ length s - i → any (is_position position) (take (i + k - i) (drop i s)) ≡ false → Passed s position from (i + k)
    passed_block k h e =
        let inside : i ≤ length s = g.inside in
        let size : i + k - i ≡ k = omega arith in
        let none : any (is_position position) (take k (drop i s)) ≡ false = ap (λ (n : ℕ). any (is_position position) (take n (drop i s))) (sym size) ∙ e in
        record {
          inside = omega arith;
          onward = omega (arith, g.onward);
          so = omega (
            arith,
            g.so,
            front_passed (is_position position) k (drop i s) (omega (arith, length-drop i s)) none,
            ap (in_front (is_position position)) (drop-drop k i s),
          );
        }

    pub passed_on : {r : ℕ} → Passed s position i r → Passed s position from r
    passed_on h = record { inside = h.inside; onward = omega (arith, g.onward, h.onward); so = h.so ∙ g.so }

-- ---- what is answered
module _ (s : List ℕ) (position from : ℕ) where
  pub scan_past : length s < from → refusal 39 ≡ first_from (is_position position) s from
  scan_past h = rw (le-leb (length s) (from + in_front (is_position position) (drop from s)) (omega arith))

  module _ {near i : ℕ} (g : Passed s position from near) (e : i ≡ near + in_front (is_position position) (drop near s)) where
    scanned : first_from (is_position position) s from ≡ refuse 39 (leb (length s) i) (reads i)
    scanned = ap (λ (k : ℕ). refuse 39 (leb (length s) k) (reads k)) (sym (e ∙ g.so))

    pub scan_none : leb (length s) i ≡ true → refusal 39 ≡ first_from (is_position position) s from
    scan_none h = rw (scanned, h)

    pub scan_found : leb (length s) i ≡ false → reads i ≡ first_from (is_position position) s from
    scan_found h = rw (scanned, h)

-- what stands in front of the first, element by element
pub front_none : (p : ℕ) → in_front (is_position p) [] ≡ 0
unfolding in_front
front_none p = refl

pub front_hit : (p x : ℕ) (s : List ℕ) → eqb x p ≡ true → in_front (is_position p) (x ∷ s) ≡ 0
unfolding in_front
front_hit p x s h = rw h

pub front_miss : (p x : ℕ) (s : List ℕ) → eqb x p ≡ false → in_front (is_position p) (x ∷ s) ≡ in_front (is_position p) s + 1
unfolding in_front
front_miss p x s h = rw h (omega arith)
