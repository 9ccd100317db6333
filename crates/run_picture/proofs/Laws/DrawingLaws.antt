-- Laws of `specs/Pictures`, as the loops that draw use them.
use Prim.Native.Nat.{ℕ, zero, suc, ◌+◌, ◌-◌, ◌≤◌, ◌<◌}
use mathlib.Core.Bool.{true, false}
use mathlib.Core.List.{List, [], ◌∷◌, ◌++◌}
use mathlib.Core.Path.{◌≡◌, refl}
use native.Mathlib.Omega.{arith}
use lib.Dec.{eqb}
use lib.ListN.{get_or}
use Rattle.bundle_check.specs.Records.{Recorded}
use Rattle.run_verdicts.specs.declared.Verdict.{Verdict}
use Rattle.run_verdicts.specs.declared.Verdict.TheVariants.{Unasked}
use Rattle.run_picture.specs.declared.pace.Pace.{Pace}
use Rattle.run_picture.specs.declared.page.Page.{Page}
use Rattle.run_picture.specs.Timing.{paced, unpaced, cut_at}
use Rattle.run_picture.specs.Elements.{mark_text, pause_text, row_drawn}
use Rattle.run_picture.specs.Pictures.{pauses_drawn, marks_drawn, rows_drawn, lane_drawn, lanes_drawn}

-- ---- a row more
module _ (s : Pace) {next : Pace} {k : Recorded} {ks rest : List Recorded} (r : rest ≡ k ∷ ks) (e : next ≡ paced s k) where
  pub pauses_next : pauses_drawn s rest ≡ pause_text s next k.time ++ pauses_drawn next ks
  unfolding pauses_drawn
  pauses_next = rw (r, e)

  module _ (p : ℕ) (vs : List Verdict) (i : ℕ) where
    pub rows_own : {v : Verdict} → v ≡ get_or vs i Unasked → eqb k.position p ≡ true
        → rows_drawn p vs s i rest ≡ row_drawn k v next.start ++ rows_drawn p vs next (i + 1) ks
    unfolding rows_drawn
    rows_own f t = rw (r, e, f, t)

    pub rows_other : eqb k.position p ≡ false → rows_drawn p vs s i rest ≡ rows_drawn p vs next (i + 1) ks
    unfolding rows_drawn
    rows_other t = rw (r, e, t)

pub pauses_none : (s : Pace) {rest : List Recorded} → rest ≡ [] → pauses_drawn s rest ≡ []
unfolding pauses_drawn
pauses_none s r = rw r

pub rows_none : (p : ℕ) (vs : List Verdict) (s : Pace) (i : ℕ) {rest : List Recorded} → rest ≡ [] → rows_drawn p vs s i rest ≡ []
unfolding rows_drawn
rows_none p vs s i r = rw r

-- ---- a mark more
module _ (p : Page) (ks : List Recorded) (x place : ℕ) where
  pub marks_next : {left cut : ℕ} → 0 < left → cut ≡ cut_at place unpaced ks
      → marks_drawn p ks left x place ≡ mark_text p.bottom x (place + cut) ++ marks_drawn p ks (left - 1) (x + 240) (place + p.step)
  unfolding marks_drawn
  marks_next {left = zero} h e = absurd (omega arith)
  marks_next {left = suc n} h e = let one : suc n - 1 ≡ n = omega arith in rw (one, e)

  pub marks_none : {left : ℕ} → left ≤ 0 → marks_drawn p ks left x place ≡ []
  unfolding marks_drawn
  marks_none {left = zero} h = refl
  marks_none {left = suc n} h = absurd (omega arith)

-- ---- a lane more
module _ (p : Page) (vs : List Verdict) (ks : List Recorded) (y : ℕ) {positions : List ℕ} where
  pub lanes_next : {position : ℕ} {more : List ℕ} → positions ≡ position ∷ more
      → lanes_drawn p vs ks y positions ≡ lane_drawn p vs ks y position ++ lanes_drawn p vs ks (y + 24) more
  unfolding lanes_drawn
  lanes_next e = rw e

  pub lanes_none : positions ≡ [] → lanes_drawn p vs ks y positions ≡ []
  unfolding lanes_drawn
  lanes_none e = rw e
