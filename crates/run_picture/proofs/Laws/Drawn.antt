-- What is drawn from the verdicts in their places is the picture of the bundle; and what is answered, where it fits and where it does not.
use Prim.Native.Nat.{ℕ, zero, suc, ◌+◌, ◌-◌, ◌≤◌, ◌<◌}
use mathlib.Core.Bool.{Bool, true, false}
use mathlib.Core.List.{List, [], ◌∷◌, ◌++◌}
use mathlib.Core.Path.{◌≡◌, refl, sym, ap, ◌∙◌}
use native.Mathlib.Nat.{zero-add}
use native.Mathlib.Omega.{arith}
use borrow.Author.Tests.{ltb-true, ltb-false, lt-ltb, le-ltb, leb-true, leb-false}
use lib.Dec.{ltb, leb}
use lib.ListN.{length, get_or, replicate}
use lib.Seq.{sets-eq}
use Rattle.base_rules.specs.Answers.{Answer, reads, refusal, within}
use Rattle.base_rules.proofs.Laws.ByteLaws.{EachByte}
use Rattle.base_rules.specs.declared.refusals.Refusal.{Refusal}
use Rattle.base_rules.proofs.Laws.AnswerLaws.{reads_same, shown_same, within_refused}
use Rattle.base_rules.proofs.Laws.TestLaws.{not_refused}
use Rattle.run_counting.proofs.Laws.Walking.{length_records}
use Rattle.run_verdicts.proofs.Laws.Telling.{length_verdicts}
use Rattle.bundle_rows.specs.Rows.{most_rows}
use Rattle.bundle_check.specs.Bundles.{check_of}
use Rattle.bundle_check.specs.Records.{Recorded, records_of}
use Rattle.text_filling.specs.Putting.{tallied, PutAt}
use Rattle.run_verdicts.specs.declared.Verdict.{Verdict}
use Rattle.run_verdicts.specs.declared.Verdict.TheVariants.{Unasked}
use Rattle.run_verdicts.specs.declared.Verdicts.{Verdicts}
use Rattle.run_verdicts.specs.Verdicts.{verdicts_of}
use Rattle.run_verdicts.specs.Answering.{verdicts_in}
use Rattle.run_verdicts.specs.Shown.{in_places, listed}
use Rattle.run_picture.specs.declared.pace.Pace.{Pace}
use Rattle.run_picture.specs.declared.page.Page.{Page}
use Rattle.std.specs.Prelude.{Ok, Err}
use Rattle.base_rules.specs.Shown.{refused_by, shown}
use Rattle.run_picture.specs.Timing.{paced, unpaced}
use Rattle.run_picture.specs.Pages.{used_positions, page_of}
use Rattle.run_picture.specs.Pictures.{rows_drawn, lane_drawn, lanes_drawn, picture_with, picture_of}
use Rattle.run_picture.specs.Shown.{Draws}
use Rattle.run_picture.proofs.Laws.Longest.{longest}

-- ---- verdicts that are the same at each place give the same picture
module _ (vs ws : List Verdict) (same : (i : ℕ) → get_or vs i Unasked ≡ get_or ws i Unasked) where
  rows_same : (p : ℕ) (s : Pace) (i : ℕ) (ks : List Recorded) → rows_drawn p vs s i ks ≡ rows_drawn p ws s i ks
  unfolding rows_drawn
  rows_same p s i [] = refl
  rows_same p s i (k ∷ ks) = rw (same i, rows_same p (paced s k) (i + 1) ks)

  lanes_same : (p : Page) (ks : List Recorded) (y : ℕ) (positions : List ℕ) → lanes_drawn p vs ks y positions ≡ lanes_drawn p ws ks y positions
  unfolding lanes_drawn lane_drawn
  lanes_same p ks y [] = refl
  lanes_same p ks y (q ∷ more) = rw (rows_same q unpaced 0 ks, lanes_same p ks (y + 24) more)

  picture_same : (p : Page) (ks : List Recorded) → picture_with p vs ks ≡ picture_with p ws ks
  unfolding picture_with
  picture_same p ks = rw (lanes_same p ks 96 (used_positions ks))

-- ---- behind the verdicts stands what is told past them
blank : (n i : ℕ) → get_or (replicate n Unasked) i Unasked ≡ Unasked
blank zero i = refl
blank (suc n) zero = refl
blank (suc n) (suc i) = blank n i

padded : (vs : List Verdict) (n i : ℕ) → get_or (vs ++ replicate n Unasked) i Unasked ≡ get_or vs i Unasked
padded [] n i = blank n i
padded (v ∷ vs) n zero = refl
padded (v ∷ vs) n (suc i) = padded vs n i

-- ---- what the verdicts tell of the check
module _ (b : List ℕ) where
  told : (a : Answer ℕ) → check_of b ≡ a → shown (within listed (verdicts_in b)) ≡ shown (within listed (within (λ n. verdicts_of (records_of b)) a))
  unfolding verdicts_in
  told a e = rw e

  pub judged_all : {v : Verdicts} → Ok v ≡ shown (within listed (verdicts_in b)) → (check_of b ≡ reads v.count) × (v.verdicts ≡ in_places (verdicts_of (records_of b)))
  judged_all {v} h = go (check_of b) refl
    where
      go : (a : Answer ℕ) → check_of b ≡ a → (check_of b ≡ reads v.count) × (v.verdicts ≡ in_places (verdicts_of (records_of b)))
      go (reads n) e =
          let same : reads v ≡ reads (listed (verdicts_of (records_of b))) = shown_same (reads v) (reads (listed (verdicts_of (records_of b)))) (h ∙ told (reads n) e) in
          let all : v ≡ listed (verdicts_of (records_of b)) = reads_same same in
          let size : v.count ≡ n = ap (λ (w : Verdicts). w.count) all ∙ length_verdicts [] (records_of b) ∙ length_records b n e in
          (rw size e, ap (λ (w : Verdicts). w.verdicts) all)
      go (refusal n) e = absurd (not_refused (sym (shown_same (reads v) (refusal n) (h ∙ told (refusal n) e))))

  pub judged_not : {r : Refusal} → Err r ≡ shown (within listed (verdicts_in b)) → check_of b ≡ refusal r.0
  judged_not {r} h = go (check_of b) refl
    where
      go : (a : Answer ℕ) → check_of b ≡ a → check_of b ≡ refusal r.0
      go (reads n) e =
          absurd (not_refused (shown_same (refusal r.0) (reads (listed (verdicts_of (records_of b)))) (h ∙ told (reads n) e)))
      go (refusal n) e =
          let same : ◌≡◌ {A = Answer Verdicts} (refusal r.0) (refusal n) = shown_same (refusal r.0) (refusal n) (h ∙ told (refusal n) e) in
          e ∙ within_refused (λ (u : ℕ). listed []) (refusal n) (sym same)

module _ (b : List ℕ) {n : ℕ} (e : check_of b ≡ reads n) where
  pub picture_drawn : {verdicts : List Verdict} {p : Page} → verdicts ≡ in_places (verdicts_of (records_of b)) → p ≡ page_of (records_of b)
      → picture_with p verdicts (records_of b) ≡ picture_of b
  unfolding picture_of
  picture_drawn h g =
      let vs = verdicts_of (records_of b) in
      rw (g, h) (picture_same (in_places vs) vs (padded vs (most_rows - length vs)) (page_of (records_of b)) (records_of b))

  -- ---- the answer
  pub measured : {size : ℕ} (room : ℕ) → EachByte b → size ≡ tallied (0 + length (picture_of b)) → leb size room ≡ leb (length (picture_of b)) room
  measured {size} room bytes count =
      let all : size ≡ length (picture_of b) = omega (arith, count, longest b n bytes e, zero-add (length (picture_of b))) in
      rw all

  module _ (out : List ℕ) {fits : Bool} (h : fits ≡ leb (length (picture_of b)) (length out)) where
    pub left_undrawn : fits ≡ false → Draws b out (Err (refused_by 21)) out
    left_undrawn f =
        let long : ltb (length out) (length (picture_of b)) ≡ true =
        lt-ltb (length out) (length (picture_of b)) (leb-false (length (picture_of b)) (length out) (sym h ∙ f)) in
        record { answer = rw (e, long); holds = rw (e, long) }

    pub drawn_whole : {size : ℕ} {after : List ℕ} → length out < 18446744073709551615 → fits ≡ true → PutAt (picture_of b) out 0 size after
        → Draws b out (Ok size) after
    drawn_whole {size} {after} room f w =
        let text : List ℕ = picture_of b in
        let less : length text ≤ length out = leb-true (length text) (length out) (sym h ∙ f) in
        let all : size ≡ length text = omega (arith, w.count, zero-add (length text)) in
        let short : ltb (length out) (length text) ≡ false = le-ltb (length out) (length text) less in
        record {
          answer = rw (e, short, all);
          holds = w.holds ∙ sets-eq text out 0 (omega (arith, zero-add (length text))) ∙ rw (e, short, zero-add);
        }

  -- and by the size that measuring tells
  module _ (out : List ℕ) {size : ℕ} (count : size ≡ tallied (0 + length (picture_of b))) where
    pub draws_not : ltb (length out) size ≡ true → Draws b out (Err (refused_by 21)) out
    draws_not t =
        let long : ltb (length out) (length (picture_of b)) ≡ true =
        lt-ltb (length out) (length (picture_of b)) (omega (arith, count, ltb-true (length out) size t, zero-add (length (picture_of b)))) in
        record { answer = rw (e, long); holds = rw (e, long) }

    pub draws_all : {r : ℕ} {after : List ℕ} → length out < 18446744073709551615 → ltb (length out) size ≡ false → PutAt (picture_of b) out 0 r after
        → Draws b out (Ok size) after
    draws_all {r} {after} room f w =
        let text : List ℕ = picture_of b in
        let less : size ≤ length out = ltb-false (length out) size f in
        let all : size ≡ length text = omega (arith, count, zero-add (length text)) in
        let fits : ltb (length out) (length text) ≡ false = le-ltb (length out) (length text) (omega arith) in
        record {
          answer = rw (e, fits, all);
          holds = w.holds ∙ sets-eq text out 0 (omega (arith, zero-add (length text))) ∙ rw (e, fits, zero-add);
        }

pub draws_refused : (b out : List ℕ) {k : ℕ} → check_of b ≡ refusal k → Draws b out (Err (refused_by k)) out
draws_refused b out e = record { answer = rw e; holds = rw e }
