-- Laws of `specs/Timing`, as the loops over rows use them.
use Prim.Native.Nat.{ℕ, ◌+◌, ◌≤◌, ◌<◌}
use mathlib.Core.Bool.{true, false}
use mathlib.Core.List.{List, [], ◌∷◌, ◌++◌}
use mathlib.Core.Path.{◌≡◌, sym, ap, ◌∙◌}
use native.Mathlib.Omega.{arith}
use borrow.Author.Tests.{eqb-true, eqb-false}
use lib.Dec.{eqb, ltb}
use lib.ListN.{length, get_or, take, drop, set, length-set}
use lib.Seq.{take-add, take-length, get_or-set_same, get_or-set_other}
use Rattle.base_rules.proofs.Laws.Tests.{by_test}
use Rattle.bundle_rows.specs.Rows.{most_rows}
use Rattle.bundle_check.specs.Records.{Recorded}
use Rattle.bundle_check.specs.Walks.{end_of}
use Rattle.run_verdicts.proofs.Laws.Telling.{end_append}
use Rattle.run_picture.specs.declared.pace.Pace.{Pace}
use Rattle.run_picture.specs.Timing.{paced, unpaced, cut_at, pace_at, Placed}

module _ (s : Pace) {next : Pace} {k : Recorded} {ks rest : List Recorded} (r : rest ≡ k ∷ ks) (e : next ≡ paced s k) where
  pub cut_past : (x : ℕ) {whole : ℕ} → cut_at x s rest ≡ whole → ltb x next.start ≡ true → s.cut ≡ whole
  unfolding cut_at
  cut_past x g t = let t' : ltb x (paced s k).start ≡ true = rw e at t in sym (ap (cut_at x s) r ∙ rw t') ∙ g

  pub cut_on : (x : ℕ) {whole : ℕ} → cut_at x s rest ≡ whole → ltb x next.start ≡ false → cut_at x next ks ≡ whole
  unfolding cut_at
  cut_on x g t = let t' : ltb x (paced s k).start ≡ false = rw e at t in rw e (sym (ap (cut_at x s) r ∙ rw t') ∙ g)

pub cut_all : (x : ℕ) {whole : ℕ} (s : Pace) {rest : List Recorded} → rest ≡ [] → cut_at x s rest ≡ whole → s.cut ≡ whole
unfolding cut_at
cut_all x s r g = sym (ap (cut_at x s) r) ∙ g

-- ---- where the rows are drawn, one by one

pub pace_next : (ks : List Recorded) {more : List Recorded} {k : Recorded} (i : ℕ) → drop i ks ≡ k ∷ more → pace_at ks (i + 1) ≡ paced (pace_at ks i) k
unfolding end_of
pace_next ks {more} {k} i r =
    ap (end_of paced unpaced) (take-add i 1 ks ∙ ap (λ (l : List Recorded). take i ks ++ take 1 l) r) ∙ end_append paced unpaced (take i ks) (k ∷ [])

pub record Placing (ks : List Recorded) (i : ℕ) (starts : List ℕ) (pace : Pace) : Type 0 where
  pub places : length starts ≡ most_rows
  pub so : pace ≡ pace_at ks i
  pub start : (j : ℕ) → j < i → get_or starts j 0 ≡ (pace_at ks (j + 1)).start
  pub near : (j : ℕ) → j < i → get_or starts j 0 ≤ 4294967296

module _ {ks more : List Recorded} {k : Recorded} {i : ℕ} {starts : List ℕ} {pace next : Pace} (g : Placing ks i starts pace) (r : drop i ks ≡ k ∷ more)
    (e : next ≡ paced pace k) (few : i < most_rows) (small : next.start ≤ 4294967296) where
  placed_here : next ≡ pace_at ks (i + 1)
  placed_here = e ∙ ap (λ (s : Pace). paced s k) g.so ∙ sym (pace_next ks i r)

  here : get_or (set starts i next.start) i 0 ≡ next.start
  here = get_or-set_same starts i next.start 0 (omega (arith, g.places))

  there : (j : ℕ) → eqb j i ≡ false → get_or (set starts i next.start) j 0 ≡ get_or starts j 0
  there j t = get_or-set_other starts i j next.start 0 (eqb-false j i t)

  pub placing_next : Placing ks (i + 1) (set starts i next.start) next
  placing_next = record {
    places = length-set starts i next.start ∙ g.places;
    so = placed_here;
    start =
        λ j h.
        by_test (eqb j i)
        (λ t. let same : j ≡ i = eqb-true j i t in rw same (here ∙ ap (λ (s : Pace). s.start) placed_here))
        (λ t. there j t ∙ g.start j (omega (arith, h, eqb-false j i t)));
    near =
        λ j h.
        by_test (eqb j i)
        (λ t. let same : j ≡ i = eqb-true j i t in rw (same, here) small)
        (λ t. rw (there j t) (g.near j (omega (arith, h, eqb-false j i t))));
  }

pub placing_all : {ks : List Recorded} {i : ℕ} {starts : List ℕ} {pace : Pace} → Placing ks i starts pace → i ≡ length ks
    → (pace ≡ end_of paced unpaced ks) × Placed ks starts
placing_all {ks} {i} g e = (
  g.so ∙ ap (end_of paced unpaced) (ap (λ (n : ℕ). take n ks) e ∙ take-length ks),
  record { places = g.places; start = rw (← e) g.start; near = rw (← e) g.near },
)
