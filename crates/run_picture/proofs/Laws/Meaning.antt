-- What a picture has: it stands in the first places, and every row of the bundle is drawn in it.
use Prim.Native.Nat.{ℕ, zero, suc, ◌+◌, ◌≤◌, ◌<◌}
use mathlib.Core.Bool.{Bool, true, false, cond, or-true}
use mathlib.Core.List.{List, [], ◌∷◌, ◌++◌, append_assoc}
use mathlib.Core.Path.{◌≡◌, refl, sym, ap, ◌∙◌}
use native.Mathlib.Nat.{zero-add, add-zero}
use native.Mathlib.Omega.{arith}
use borrow.Author.Tests.{ltb-false, eq-eqb, eqb-true, eqb-false}
use lib.Dec.{eqb, ltb}
use lib.ListN.{length, get_or, take, drop}
use lib.Seq.{drop_at}
use Rattle.base_rules.specs.Answers.{Answer, reads, refusal}
use Rattle.base_rules.proofs.Laws.Tests.{by_test}
use Rattle.base_lent.specs.Lent.{stored}
use Rattle.base_lent.proofs.Laws.Copying.{laid_front, laid_behind}
use Rattle.bundle_check.specs.Bundles.{check_of}
use Rattle.bundle_check.specs.Records.{Recorded, records_of, blank_record}
use Rattle.bundle_check.specs.Walks.{end_of}
use Rattle.bundle_check.proofs.Laws.BodyLaws.{unchecked_right}
use Rattle.run_counting.specs.Counting.{kept_if}
use Rattle.run_counting.proofs.Laws.Walking.{record_there, length_records}
use Rattle.run_verdicts.specs.declared.Verdict.{Verdict}
use Rattle.run_verdicts.specs.declared.Verdict.TheVariants.{Unasked}
use Rattle.run_verdicts.specs.Verdicts.{verdicts_of}
use Rattle.run_picture.specs.declared.pace.Pace.{Pace}
use Rattle.run_picture.specs.declared.page.Page.{Page}
use Rattle.std.specs.Prelude.{Ok}
use Rattle.run_picture.specs.Timing.{paced, unpaced}
use Rattle.run_picture.specs.Pages.{has_rows, used_from, page_of}
use Rattle.text_filling.specs.Texts.{text}
use Rattle.run_picture.specs.Elements.{pauses_open_text, lane_text, row_drawn}
use Rattle.run_picture.specs.Pictures.{Inside, head_text, pauses_drawn, marks_drawn, rows_drawn, lane_drawn, lanes_drawn, picture_with, picture_of}
use Rattle.run_picture.specs.Shown.{drawn_in, Draws}
use Rattle.base_rules.proofs.Laws.AnswerLaws.{shown_same}

-- ---- where it stands
pub picture_stands : (b out : List ℕ) {n : ℕ} {after : List ℕ} → Draws b out (Ok n) after
    → (n ≡ length (picture_of b)) × (n ≤ length out) × (take n after ≡ picture_of b) × (drop n after ≡ drop n out)
picture_stands b out {n} {after} d =
    go (check_of b) (ltb (length out) (length (picture_of b))) refl refl (shown_same (drawn_in b out) (reads n) (sym d.answer))
  where
    whole : List ℕ
    whole = picture_of b

    fits : n ≡ length whole → ltb (length out) (length whole) ≡ false → after ≡ stored (λ (n : ℕ). whole) out (reads n)
        → (n ≡ length whole) × (n ≤ length out) × (take n after ≡ whole) × (drop n after ≡ drop n out)
    fits e t h =
        let room : length whole ≤ length out = ltb-false (length out) (length whole) t in (
          e,
          omega arith,
          rw (h, e) (rw (zero-add (length whole)) at (laid_front out whole 0 (omega (arith, zero-add (length whole))))),
          rw (h, laid_behind out 0 whole, zero-add) (drop_at whole (drop (length whole) out) n (sym e) ∙ ap (λ (k : ℕ). drop k out) (sym e)),
        )

    go : (a : Answer ℕ) (t : Bool) → check_of b ≡ a → ltb (length out) (length whole) ≡ t → drawn_in b out ≡ reads n
        → (n ≡ length whole) × (n ≤ length out) × (take n after ≡ whole) × (drop n after ≡ drop n out)
    go (refusal k) t e f g =
        let other : ◌≡◌ {A = Answer ℕ} (refusal k) (reads n) = rw e at g in
        let z : ◌≡◌ {A = ℕ} 0 1 = cc in
        absurd (omega arith)
    go (reads m) true e f g =
        let other : ◌≡◌ {A = Answer ℕ} (refusal 21) (reads n) = rw (e, f) at g in
        let z : ◌≡◌ {A = ℕ} 0 1 = cc in
        absurd (omega arith)
    go (reads m) false e f g =
        let same : reads (length whole) ≡ reads n = rw (e, f) at g in
        let size : n ≡ length whole = cc in
        fits size f (d.holds ∙ rw (e, f))

-- ---- every row is drawn

pub inside_itself : (s t : List ℕ) → Inside s (s ++ t)
inside_itself s t = record { front = []; back = t; so = refl }

pub inside_left : {s t : List ℕ} (u : List ℕ) → Inside s t → Inside s (t ++ u)
inside_left {s} u i = record {
  front = i.front;
  back = i.back ++ u;
  so = ap (λ (l : List ℕ). l ++ u) i.so ∙ append_assoc i.front (s ++ i.back) u ∙ ap (λ (l : List ℕ). i.front ++ l) (append_assoc s i.back u);
}

pub inside_right : {s u : List ℕ} (t : List ℕ) → Inside s u → Inside s (t ++ u)
inside_right {s} t i = record {
  front = t ++ i.front;
  back = i.back;
  so = ap (λ (l : List ℕ). t ++ l) i.so ∙ sym (append_assoc t i.front (s ++ i.back));
}

-- in the lane of its position
rows_inside : (p : ℕ) (vs : List Verdict) (s : Pace) (i j : ℕ) (ks : List Recorded) → j < length ks → (get_or ks j blank_record).position ≡ p
    → Inside (row_drawn (get_or ks j blank_record) (get_or vs (i + j) Unasked) (paced (end_of paced s (take j ks)) (get_or ks j blank_record)).start)
    (rows_drawn p vs s i ks)
unfolding rows_drawn end_of
rows_inside p vs s i j [] h e = absurd (omega arith)
rows_inside p vs s i zero (k ∷ ks) h e =
    rw (eq-eqb k.position p e, add-zero i)
    (inside_itself (row_drawn k (get_or vs i Unasked) (paced s k).start) (rows_drawn p vs (paced s k) (i + 1) ks))
rows_inside p vs s i (suc j) (k ∷ ks) h e =
    let on : i + suc j ≡ i + 1 + j = omega arith in
    rw on
    (inside_right (cond (eqb k.position p) (row_drawn k (get_or vs i Unasked) (paced s k).start) [])
    (rows_inside p vs (paced s k) (i + 1) j ks (omega arith) e))

pub has_row : (p j : ℕ) (ks : List Recorded) → j < length ks → (get_or ks j blank_record).position ≡ p → has_rows p ks ≡ true
unfolding has_rows
has_row p j [] h e = absurd (omega arith)
has_row p zero (k ∷ ks) h e = rw (eq-eqb k.position p e)
has_row p (suc j) (k ∷ ks) h e = rw (has_row p j ks (omega arith) e) (or-true (eqb k.position p))

-- in the lanes of all positions
module _ (p : Page) (vs : List Verdict) (ks : List Recorded) {q : ℕ} (has : has_rows q ks ≡ true) {s : List ℕ}
    (own : (y : ℕ) → Inside s (lane_drawn p vs ks y q)) where
  lanes_inside : (n y first : ℕ) → first ≤ q → q < first + n → Inside s (lanes_drawn p vs ks y (used_from ks n first))
  unfolding used_from lanes_drawn
  lanes_inside zero y first l h = absurd (omega (arith, add-zero first))
  lanes_inside (suc n) y first l h =
      by_test (eqb first q) here
      (λ f. next (has_rows first ks)
      (λ z. lanes_inside n z (first + 1) (omega (arith, l, eqb-false first q f)) (omega (arith, h))))
    where
      here : eqb first q ≡ true → Inside s (lanes_drawn p vs ks y (kept_if (has_rows first ks) first (used_from ks n (first + 1))))
      here t =
          let e : first ≡ q = eqb-true first q t in
          rw (e, has) (inside_left (lanes_drawn p vs ks (y + 24) (used_from ks n (q + 1))) (own y))

      next : (t : Bool) → ((z : ℕ) → Inside s (lanes_drawn p vs ks z (used_from ks n (first + 1))))
          → Inside s (lanes_drawn p vs ks y (kept_if t first (used_from ks n (first + 1))))
      next true more = inside_right (lane_drawn p vs ks y first) (more (y + 24))
      next false more = more y

-- a row of an accepted bundle has a position of 1 to 48
pub position_right : (b : List ℕ) (n j : ℕ) → check_of b ≡ reads n → j < n
    → (1 ≤ (get_or (records_of b) j blank_record).position) × ((get_or (records_of b) j blank_record).position ≤ 48)
position_right b n j e h =
    let right = unchecked_right b j n e h in
    rw (record_there b j n e h) (right.position_least, right.position_most)

-- The box of each row, with its verdict and where its pace says, is in the picture of an accepted bundle.
pub row_inside : (b : List ℕ) (n j : ℕ) → check_of b ≡ reads n → j < n
    → Inside (row_drawn (get_or (records_of b) j blank_record) (get_or (verdicts_of (records_of b)) j Unasked)
    (paced (end_of paced unpaced (take j (records_of b))) (get_or (records_of b) j blank_record)).start) (picture_of b)
unfolding picture_of picture_with lane_drawn
row_inside b n j e h =
    let ks = records_of b in
    let vs = verdicts_of ks in
    let p = page_of ks in
    let k = get_or ks j blank_record in
    let size : j < length ks = omega (arith, length_records b n e) in
    let right = position_right b n j e h in
    let row : Inside (row_drawn k (get_or vs j Unasked) (paced (end_of paced unpaced (take j ks)) k).start) (rows_drawn k.position vs unpaced 0 ks) =
    rw (zero-add j) at (rows_inside k.position vs unpaced 0 j ks size refl) in
    let lanes = lanes_inside p vs ks (has_row k.position j ks size refl)
    (λ y. inside_right (lane_text p y k.position) (inside_left (text "</svg>\n") row)) 48 96 1 right.0 (omega (arith, right.1)) in
    inside_right (head_text p)
    (inside_right (pauses_open_text p ++ (pauses_drawn unpaced ks ++ text "</svg>\n"))
    (inside_right (marks_drawn p ks (p.fields + 1) 60 0) (inside_left (text "</svg>\n") lanes)))
