-- The statements of `specs/Drawing`.
use Prim.Native.Nat.{ℕ, zero, suc, ◌+◌, ◌-◌, ◌*◌, ◌%◌, ◌≤◌, ◌<◌, max, zero-le}
use mathlib.Core.Bool.{Bool, true, false, cond, ◌||◌}
use mathlib.Core.List.{List, [], ◌∷◌, ◌++◌, append-nil}
use mathlib.Core.Path.{◌≡◌, refl, sym, ap, ap₂, ◌∙◌}
use native.Mathlib.Nat.{add-zero}
use native.Mathlib.Numerals.{add-one}
use native.Mathlib.Omega.{arith}
use borrow.Author.Tests.{le-ltb, lt-ltb, ltb-true, ltb-false, eqb-true, eqb-false}
use lib.Count.{ones_in}
use lib.Dec.{eqb, ltb}
use lib.ListN.{length, get_or, take, drop}
use lib.Seq.{drop-cons, get_or-drop, drop-drop}
use Rattle.base_rules.specs.Answers.{reads}
use Rattle.base_rules.specs.Lists.{any, total}
use Rattle.base_rules.proofs.Laws.Tests.{neither, by_test}
use Rattle.base_lent.specs.Pieces.{pieces}
use Rattle.base_characters.specs.Characters.{odd, chars}
use Rattle.bundle_rows.specs.Fields.{wrong_field}
use Rattle.bundle_check.specs.Bundles.{check_of, count_of, contents_of, bodies_of}
use Rattle.bundle_check.specs.Records.{Recorded, records_of, blank_record, record_time}
use Rattle.bundle_check.specs.Walks.{some_wrong, end_of}
use Rattle.bundle_check.proofs.Laws.Accepted.{accepted_sound}
use Rattle.bundle_check.proofs.Laws.RecordLaws.{wrong_record}
use Rattle.bundle_check.proofs.Laws.HoldingLaws.{fields_in, sound_end, length_bodies}
use Rattle.bundle_rows.specs.Rows.{first_offset}
use Rattle.run_counting.specs.Counting.{is_sent, kept_if}
use Rattle.run_counting.proofs.Laws.Walking.{length_records}
use Rattle.text_filling.specs.Holes.{filled_with}
use Rattle.text_filling.specs.Texts.{text}
use Rattle.text_filling.specs.Decimals.{digits_in, decimal}
use Rattle.mbus_rules.specs.Lines.{read_body, read_line}
use Rattle.bench_clock.specs.Wakes.{is_wake}
use Rattle.run_verdicts.specs.declared.Verdict.{Verdict}
use Rattle.run_verdicts.specs.declared.Verdict.TheVariants.{Unasked}
use Rattle.run_verdicts.specs.Verdicts.{verdicts_of}
use Rattle.run_picture.specs.Timing.{left_out, line_time, paced, unpaced, pace_at}
use Rattle.run_picture.specs.Pages.{has_rows, used_from, page_of}
use Rattle.run_picture.specs.Elements.{verdict_text, place_text, row_drawn, pauses_open_text}
use Rattle.run_picture.specs.Pictures.{Inside, head_text, pauses_drawn, marks_drawn, rows_drawn, lane_drawn, lanes_drawn, picture_with, picture_of}
use Rattle.run_picture.proofs.Laws.TimingLaws.{pace_next}
use Rattle.run_picture.proofs.Laws.Meaning.{inside_left, inside_right, inside_itself, has_row, position_right, picture_stands}
use Rattle.run_listing.specs.LineColumn.{column_of}
use Rattle.run_listing.specs.Listings.{word_of}
use Rattle.run_picture.specs.Shown.{Draws}
use Rattle.std.specs.Prelude.{Ok}
use Rattle.run_picture.proofs.Laws.Longest.{longest}
use Rattle.demands.proofs.Laws.Bundle.{byte_at}
use Rattle.demands.specs.Drawing.{row_no, box_at, busy_until, pause_before, drawn_pause, FirstRowDrawn, NextRowDrawn, LaterNotFurtherLeft, DistancesTrue}
use Rattle.demands.specs.Drawing.{drawing, rows_at, lanes_up_to, lane_top, LaneOpened, RowInItsLane, SendDrawn, HeardDrawn}
use Rattle.demands.specs.Drawing.{BoxAtItsPlace, PictureNeverLonger, PictureGiven, PictureAlwaysGiven}

-- ---- what is left out, and what stays
stays : (p : ℕ) → left_out p + drawn_pause p ≡ p
stays p = go (ltb p 360) refl
  where
    go : (t : Bool) → ltb p 360 ≡ t → left_out p + cond t p (120 + (p - 120) % 240) ≡ p
    go true e = let l : p < 360 = ltb-true p 360 e in omega arith
    go false e = let l : 360 ≤ p = ltb-false p 360 e in omega arith

-- the rows up to one, and what is then left out and until when something was
busy_end : (s : _) (ks : List Recorded) → (end_of paced s ks).busy ≡ max s.busy (busy_until ks)
unfolding end_of
busy_end s [] = omega arith
busy_end s (k ∷ ks) = omega (arith, busy_end (paced s k) ks)

-- how the pace stands behind a row
record Behind (t c b x : ℕ) : Type 0 where
  cut : c ≤ t
  start : x ≡ t - c
  late : c ≤ b
  busy : t ≤ b

begun : (c b t w : ℕ) → c ≤ b → c ≤ t → Behind t (c + left_out (t - b)) (max b (t + w + 450)) (t - (c + left_out (t - b)))
begun c b t w h g = record { cut = omega arith; start = refl; late = omega arith; busy = omega arith }

behind_at : (before : ℕ) (s : _) (ks : List Recorded) (i : ℕ) (r : _) → r ≡ end_of paced s (take (suc i) ks) → s.cut ≤ s.busy → s.cut ≤ before
    → some_wrong wrong_record record_time before ks ≡ false → i < length ks → Behind (get_or ks i blank_record).time r.cut r.busy r.start
unfolding some_wrong end_of
behind_at before s [] i r e h g w l = absurd (omega arith)
behind_at before s (k ∷ ks) zero r e h g w l =
    let p = neither (wrong_record before k) (some_wrong wrong_record record_time k.time ks) w in
    let q = neither (wrong_field k.position k.direction (length k.body)) (ltb k.time before) p.0 in
    rw e (begun s.cut s.busy k.time (line_time k) h (omega (arith, g, ltb-false k.time before q.1)))
behind_at before s (k ∷ ks) (suc i) r e h g w l =
    let p = neither (wrong_record before k) (some_wrong wrong_record record_time k.time ks) w in
    let q = neither (wrong_field k.position k.direction (length k.body)) (ltb k.time before) p.0 in
    let first = begun s.cut s.busy k.time (line_time k) h (omega (arith, g, ltb-false k.time before q.1)) in
    behind_at k.time (paced s k) ks i r e first.late first.cut p.1 (omega arith)

-- times do not go back
rising : (before : ℕ) (ks : List Recorded) (i : ℕ) → some_wrong wrong_record record_time before ks ≡ false → suc i < length ks
    → (get_or ks i blank_record).time ≤ (get_or ks (suc i) blank_record).time
unfolding some_wrong
rising before [] i w l = absurd (omega arith)
rising before (k ∷ []) i w l = absurd (omega arith)
rising before (k ∷ (m ∷ ks)) zero w l =
    let p = neither (wrong_record before k) (some_wrong wrong_record record_time k.time (m ∷ ks)) w in
    let q = neither (wrong_record k.time m) (some_wrong wrong_record record_time m.time ks) p.1 in
    let r = neither (wrong_field m.position m.direction (length m.body)) (ltb m.time k.time) q.0 in
    ltb-false m.time k.time r.1
rising before (k ∷ (m ∷ ks)) (suc i) w l =
    rising k.time (m ∷ ks) i (neither (wrong_record before k) (some_wrong wrong_record record_time k.time (m ∷ ks)) w).1 (omega arith)

module _ (b : List ℕ) (n : ℕ) (e : check_of b ≡ reads n) where
  abbrev ks : List Recorded
  ks = records_of b

  right : some_wrong wrong_record record_time 0 ks ≡ false
  right =
      let s = (accepted_sound b n e).0 in
      fields_in 0 (first_offset (count_of b)) (contents_of b) (bodies_of b) (omega (arith, sound_end b s, length_bodies b s)) ∙ s.fields

  pace_row : (i : ℕ) → i < n → pace_at ks (i + 1) ≡ paced (pace_at ks i) (row_no b i)
  pace_row i h = pace_next ks i (drop-cons ks i blank_record (omega (arith, length_records b n e)))

  behind_row : (i : ℕ) → i < n → Behind (row_no b i).time (pace_at ks (i + 1)).cut (pace_at ks (i + 1)).busy (pace_at ks (i + 1)).start
  behind_row i h =
      behind_at 0 unpaced ks i (pace_at ks (i + 1)) (rw add-one) zero-le zero-le right (omega (arith, length_records b n e))

  busy_row : (i : ℕ) → (pace_at ks i).busy ≡ busy_until (take i ks)
  busy_row i = busy_end unpaced (take i ks) ∙ omega arith

  first_drawn : 0 < n → box_at b 0 ≡ drawn_pause (row_no b 0).time
  unfolding end_of
  first_drawn h =
      let t : ℕ = (row_no b 0).time in
      let d : ℕ = drawn_pause t in
      let all : left_out t + d ≡ t = stays t in
      let so : pace_at ks 1 ≡ paced unpaced (row_no b 0) = pace_row 0 h in
      let x : box_at b 0 ≡ t - left_out t = ap (λ (s : _). s.start) so ∙ omega arith in
      omega arith

  next_law : (c t t' l d x x' q pause : ℕ) → c ≤ t → q ≤ t' → q ≡ c + l → x ≡ t - c → x' ≡ t' - q → l + d ≡ pause → x' + pause + t ≡ x + d + t'
  next_law c t t' l d x x' q pause h g f k m o = omega arith

  next_drawn : (i : ℕ) → i + 1 < n
      → box_at b (i + 1) + pause_before b (i + 1) + (row_no b i).time ≡ box_at b i + drawn_pause (pause_before b (i + 1)) + (row_no b (i + 1)).time
  next_drawn i h =
      let p = behind_row i (omega arith) in
      let q = behind_row (i + 1) h in
      let pause : ℕ = pause_before b (i + 1) in
      let cut : (pace_at ks (i + 1 + 1)).cut ≡ (pace_at ks (i + 1)).cut + left_out pause =
      ap (λ (s : _). s.cut) (pace_row (i + 1) h) ∙ rw (busy_row (i + 1)) in
      next_law (pace_at ks (i + 1)).cut (row_no b i).time (row_no b (i + 1)).time (left_out pause) (drawn_pause pause) (box_at b i) (box_at b (i + 1))
      (pace_at ks (i + 1 + 1)).cut pause p.cut q.cut cut p.start q.start (stays pause)

  next_not_left : (i : ℕ) → i + 1 < n → box_at b i ≤ box_at b (i + 1)
  next_not_left i h =
      let t : ℕ = (row_no b i).time in
      let t' : ℕ = (row_no b (i + 1)).time in
      let up : t ≤ t' = rw add-one (rising 0 ks i right (omega (arith, length_records b n e))) in
      let busy : t ≤ busy_until (take (i + 1) ks) = rw busy_row at (behind_row i (omega arith)).busy in
      let pause : ℕ = pause_before b (i + 1) in
      let short : t + pause ≤ t' = omega arith in
      omega (arith, next_drawn i h)

  later_drawn : (i j : ℕ) → i ≤ j → j < n → box_at b i ≤ box_at b j
  later_drawn i zero h l = let z : i ≡ 0 = omega arith in rw z (omega arith)
  later_drawn i (suc j) h l =
      let before = later_drawn i j in
      let step : box_at b j ≤ box_at b (suc j) = rw add-one at (next_not_left j (omega arith)) in
      by_test (eqb i (suc j))
      (λ t. let same : i ≡ suc j = eqb-true i (suc j) t in rw same (omega arith))
      (λ t. omega (arith, step, before (omega (arith, h, eqb-false i (suc j) t)) (omega arith)))

  distances_drawn : (i j : ℕ) → i ≤ j → j < n → ((k : ℕ) → i < k → k ≤ j → pause_before b k < 360)
      → box_at b j + (row_no b i).time ≡ box_at b i + (row_no b j).time
  distances_drawn i zero h l f = let z : i ≡ 0 = omega arith in rw z
  distances_drawn i (suc j) h l f =
      let before = distances_drawn i j in
      by_test (eqb i (suc j))
      (λ t. let same : i ≡ suc j = eqb-true i (suc j) t in rw same)
      (λ t. let far : i ≤ j = omega (arith, h, eqb-false i (suc j) t) in
      let near : pause_before b (suc j) < 360 = f (suc j) (omega arith) (omega arith) in
      let whole : drawn_pause (pause_before b (suc j)) ≡ pause_before b (suc j) = rw (lt-ltb (pause_before b (suc j)) 360 near) in
      let step : box_at b (suc j) + pause_before b (suc j) + (row_no b j).time ≡ box_at b j + drawn_pause (pause_before b (suc j)) + (row_no b (suc j)).time =
      rw add-one at (next_drawn j (omega arith)) in
      omega (arith, step, whole, before far (omega arith) (λ k a c. f k a (omega arith))))

pub first_row_drawn : FirstRowDrawn
first_row_drawn = first_drawn

pub next_row_drawn : NextRowDrawn
next_row_drawn b n i e = next_drawn b n e i

pub later_not_further_left : LaterNotFurtherLeft
later_not_further_left b n i j e = later_drawn b n e i j

pub distances_true : DistancesTrue
distances_true b n i j e = distances_drawn b n e i j

-- ---- the lane of a position, and its rows

module _ (b : List ℕ) where
  own_rows : (p : ℕ) (s : _) (i : ℕ) (ks : List Recorded) → drop i (records_of b) ≡ ks → s ≡ pace_at (records_of b) i
      → rows_drawn p (verdicts_of (records_of b)) s i ks ≡ pieces (drawing b) (rows_at p i ks)
  unfolding rows_drawn
  own_rows p s i [] r e = refl
  own_rows p s i (k ∷ ks) r e =
      let all : List Recorded = records_of b in
      let same : paced s k ≡ pace_at all (i + 1) = ap (λ (t : _). paced t k) e ∙ sym (pace_next all i r) in
      let here : k ≡ row_no b i =
      sym (ap (λ (l : List Recorded). get_or l 0 blank_record) r) ∙ get_or-drop i all 0 blank_record ∙ ap (λ (j : ℕ). get_or all j blank_record) (add-zero i) in
      let rest : drop (i + 1) all ≡ ks = sym (drop-drop 1 i all) ∙ ap (drop 1) r in
      go (eqb k.position p) (ap₂ (λ (m : Recorded) (x : ℕ). row_drawn m (get_or (verdicts_of all) i Unasked) x) here (ap (λ (t : _). t.start) same))
      (own_rows p (paced s k) (i + 1) ks rest same)
    where
      go : (t : Bool) → row_drawn k (get_or (verdicts_of (records_of b)) i Unasked) (paced s k).start ≡ drawing b i
          → rows_drawn p (verdicts_of (records_of b)) (paced s k) (i + 1) ks ≡ pieces (drawing b) (rows_at p (i + 1) ks)
          → cond t (row_drawn k (get_or (verdicts_of (records_of b)) i Unasked) (paced s k).start) []
          ++ rows_drawn p (verdicts_of (records_of b)) (paced s k) (i + 1) ks ≡ pieces (drawing b) (kept_if t i (rows_at p (i + 1) ks))
      go true f g = ap₂ (λ (x y : List ℕ). x ++ y) f g
      go false f g = g

-- the lane of a position that has rows, where it stands
lane_at : (p : _) (vs : List Verdict) (ks : List Recorded) {q : ℕ} → has_rows q ks ≡ true → (m n y first : ℕ) → q ≡ first + m → m < n
    → Inside (lane_drawn p vs ks (y + 24 * length (used_from ks m first)) q) (lanes_drawn p vs ks y (used_from ks n first))
unfolding used_from lanes_drawn
lane_at p vs ks has m zero y first e h = absurd (omega arith)
lane_at p vs ks {q} has zero (suc n) y first e h =
    let same : first ≡ q = omega arith in
    rw (same, has, add-zero y) (inside_itself (lane_drawn p vs ks y q) (lanes_drawn p vs ks (y + 24) (used_from ks n (q + 1))))
lane_at p vs ks {q} has (suc m) (suc n) y first e h =
    let on : (z : ℕ) → Inside (lane_drawn p vs ks (z + 24 * length (used_from ks m (first + 1))) q) (lanes_drawn p vs ks z (used_from ks n (first + 1))) =
    λ z. lane_at p vs ks has m n z (first + 1) (omega arith) (omega arith) in
    go (has_rows first ks) on
  where
    go : (t : Bool)
        → ((z : ℕ) → Inside (lane_drawn p vs ks (z + 24 * length (used_from ks m (first + 1))) q) (lanes_drawn p vs ks z (used_from ks n (first + 1))))
        → Inside (lane_drawn p vs ks (y + 24 * length (kept_if t first (used_from ks m (first + 1)))) q)
        (lanes_drawn p vs ks y (kept_if t first (used_from ks n (first + 1))))
    go true on =
        let one : y + 24 * suc (length (used_from ks m (first + 1))) ≡ y + 24 + 24 * length (used_from ks m (first + 1)) = omega arith in
        rw one (inside_right (lane_drawn p vs ks y first) (on (y + 24)))
    go false on = on y

-- how many lanes are above one
has_any : (p : ℕ) (ks : List Recorded) → has_rows p ks ≡ any (λ (k : Recorded). eqb k.position p) ks
unfolding has_rows any
has_any p [] = refl
has_any p (k ∷ ks) = ap (λ (t : Bool). eqb k.position p || t) (has_any p ks)

used_more : (ks : List Recorded) (n first : ℕ) → length (used_from ks (suc n) first) ≡ length (used_from ks n first) + cond (has_rows (first + n) ks) 1 0
unfolding used_from
used_more ks zero first = rw (add-zero first) (go (has_rows first ks))
  where
    go : (t : Bool) → length (kept_if t first []) ≡ 0 + cond t 1 0
    go true = refl
    go false = refl
used_more ks (suc n) first = go (has_rows first ks) (used_more ks n (first + 1))
  where
    go : (t : Bool) → length (used_from ks (suc n) (first + 1)) ≡ length (used_from ks n (first + 1)) + cond (has_rows (first + 1 + n) ks) 1 0
        → length (kept_if t first (used_from ks (suc n) (first + 1)))
        ≡ length (kept_if t first (used_from ks n (first + 1))) + cond (has_rows (first + suc n) ks) 1 0
    go t h = let on : first + suc n ≡ first + 1 + n = omega arith in rw on (each t h)
      where
        each : (t : Bool) → length (used_from ks (suc n) (first + 1)) ≡ length (used_from ks n (first + 1)) + cond (has_rows (first + 1 + n) ks) 1 0
            → length (kept_if t first (used_from ks (suc n) (first + 1)))
            ≡ length (kept_if t first (used_from ks n (first + 1))) + cond (has_rows (first + 1 + n) ks) 1 0
        each true h = omega (arith, h)
        each false h = h

lanes_up_to_lem : (ks : List Recorded) (n : ℕ) → length (used_from ks n 1) ≡ lanes_up_to ks n
unfolding used_from
lanes_up_to_lem ks zero = refl
lanes_up_to_lem ks (suc n) =
    used_more ks n 1 ∙ ap₂ (λ (m : ℕ) (t : Bool). m + cond t 1 0) (lanes_up_to_lem ks n) (has_any (1 + n) ks)

lane_there : (b : List ℕ) (n i : ℕ) → check_of b ≡ reads n → i < n
    → Inside (lane_drawn (page_of (records_of b)) (verdicts_of (records_of b)) (records_of b) (lane_top (records_of b) (row_no b i).position) (row_no b i).position)
    (picture_of b)
unfolding picture_of picture_with
lane_there b n i e h =
    let ks = records_of b in
    let p = page_of ks in
    let q = (row_no b i).position in
    let range = position_right b n i e h in
    let has = has_row q i ks (omega (arith, length_records b n e)) refl in
    rw (← lanes_up_to_lem ks (q - 1))
    (inside_right (head_text p)
    (inside_right (pauses_open_text p ++ (pauses_drawn unpaced ks ++ text "</svg>\n"))
    (inside_right (marks_drawn p ks (p.fields + 1) 60 0)
    (inside_left (text "</svg>\n") (lane_at p (verdicts_of ks) ks has (q - 1) 48 96 1 (omega (arith, range.0)) (omega (arith, range.1)))))))

pub row_in_its_lane : RowInItsLane
unfolding lane_drawn end_of
row_in_its_lane b n i e h =
    let own = own_rows b (row_no b i).position unpaced 0 (records_of b) refl refl in
    rw (← own) (lane_there b n i e h)

-- ---- a text with holes is its parts with the numbers between them

abbrev is_hole : ℕ → Bool
is_hole c = eqb c 37

-- parts with a hole between each two, and with a number between each two
abbrev with_holes : List (List ℕ) → List ℕ
with_holes [] = []
with_holes (s ∷ []) = s
with_holes (s ∷ (t ∷ ss)) = s ++ (37 ∷ with_holes (t ∷ ss))

abbrev with_numbers : List (List ℕ) → List ℕ → List ℕ
with_numbers [] ns = []
with_numbers (s ∷ []) ns = s
with_numbers (s ∷ (t ∷ ss)) ns = s ++ (decimal (get_or ns 0 0) ++ with_numbers (t ∷ ss) (drop 1 ns))

part_kept : (s t ns : List ℕ) → any is_hole s ≡ false → filled_with (s ++ t) ns ≡ s ++ filled_with t ns
unfolding any filled_with
part_kept [] t ns w = refl
part_kept (c ∷ s) t ns w =
    let p = neither (is_hole c) (any is_hole s) w in
    rw p.0 (ap (λ (l : List ℕ). c ∷ l) (part_kept s t ns p.1))

parts_filled : (ss : List (List ℕ)) (ns : List ℕ) → any (any is_hole) ss ≡ false → filled_with (with_holes ss) ns ≡ with_numbers ss ns
unfolding any filled_with
parts_filled [] ns w = refl
parts_filled (s ∷ []) ns w =
    let p = neither (any is_hole s) false w in
    ap (λ (l : List ℕ). filled_with l ns) (sym (append-nil s)) ∙ part_kept s [] ns p.0 ∙ append-nil s
parts_filled (s ∷ (t ∷ ss)) ns w =
    let p = neither (any is_hole s) (any (any is_hole) (t ∷ ss)) w in
    part_kept s (37 ∷ with_holes (t ∷ ss)) ns p.0
    ∙ ap (λ (l : List ℕ). s ++ (decimal (get_or ns 0 0) ++ l)) (parts_filled (t ∷ ss) (drop 1 ns) p.1)

abbrev lane_parts : List (List ℕ)
lane_parts =
    text "<text x='50' y='" ∷ text "' text-anchor='end'>" ∷ text "</text><text x='" ∷ text "' y='" ∷ text "'>"
    ∷ text "</text><path class='grid' d='M60 " ∷ text "h" ∷ text "'/>\n<svg x='60' y='" ∷ text "' width='" ∷ text "' height='24' viewBox='0 0 "
    ∷ text " 24' preserveAspectRatio='none'>\n" ∷ []

no_hole : any (any is_hole) lane_parts ≡ false
unfolding any
no_hole = refl

pub lane_opened : LaneOpened
lane_opened ks y position =
    let p = page_of ks in
    parts_filled lane_parts ((y + 16) ∷ position ∷ p.right ∷ (y + 16) ∷ position ∷ y ∷ p.wide ∷ y ∷ p.wide ∷ p.span ∷ []) no_hole

pub send_drawn : SendDrawn
unfolding row_drawn word_of column_of is_wake chars any digits_in read_line read_body odd ones_in total
send_drawn = refl

pub heard_drawn : HeardDrawn
unfolding row_drawn word_of column_of is_wake chars any digits_in read_line read_body odd ones_in total
heard_drawn = refl

pub box_at_its_place : BoxAtItsPlace
unfolding row_drawn
box_at_its_place b i =
    let k = row_no b i in
    let x = box_at b i in
    let w = line_time k in
    inside_right (verdict_text (get_or (verdicts_of (records_of b)) i Unasked) (x + w))
    (inside_right (place_text k.direction k.position k.time) (inside_right (word_of (chars k.body)) (go x w (is_sent k))))
  where
    go : (x w : ℕ) (t : Bool)
        → Inside (text "<rect x='" ++ (decimal x ++ (cond t (text "' y='3' width='") (text "' y='13' width='") ++ (decimal w ++ text "' height='8'/></g>\n"))))
        (cond t (text "</title><rect x='" ++ (decimal x ++ (text "' y='3' width='" ++ (decimal w ++ text "' height='8'/></g>\n"))))
        (text "</title><rect x='" ++ (decimal x ++ (text "' y='13' width='" ++ (decimal w ++ text "' height='8'/></g>\n")))))
    go x w true = record { front = text "</title>"; back = []; so = ap (λ (l : List ℕ). text "</title>" ++ l) (sym (append-nil _)) }
    go x w false = record { front = text "</title>"; back = []; so = ap (λ (l : List ℕ). text "</title>" ++ l) (sym (append-nil _)) }

-- ---- when it is given

pub picture_never_longer : PictureNeverLonger
picture_never_longer b n bytes = longest b n (byte_at b bytes)

pub picture_given : PictureGiven
picture_given b out n written r out' written' e room d =
    let fits : ltb (length out) (length (picture_of b)) ≡ false = le-ltb (length out) (length (picture_of b)) room in
    let drawn : Draws b out (Ok (length (picture_of b))) out' = record { answer = rw (e, fits); holds = d.holds } in
    let size : written' ≡ length (picture_of b) = d.gives.place ∙ rw (e, fits) in
    (d.gives.number ∙ rw (e, fits), size, rw size (picture_stands b out drawn).2)

pub picture_always_given : PictureAlwaysGiven
picture_always_given b out n written r out' written' bytes e room d =
    picture_given b out n written r out' written' e (omega (arith, picture_never_longer b n bytes e)) d
