-- The longest picture: how many bytes each of its parts has at most, each number with ten digits, and that all of them together are under `picture_most`.
use Prim.Native.Nat.{ℕ, zero, suc, ◌+◌, ◌-◌, ◌*◌, ◌/◌, ◌%◌, ◌^◌, ◌≤◌, ◌<◌, max, zero-le}
use mathlib.Core.Bool.{Bool, true, false, cond}
use mathlib.Core.List.{List, [], ◌∷◌, ◌++◌}
use mathlib.Core.Path.{◌≡◌, refl}
use native.Mathlib.Omega.{arith}
use borrow.Author.Tests.{ltb-true, leb-true, leb-false, eqb-true}
use lib.Dec.{eqb, ltb, leb}
use lib.ListN.{length, get_or, drop, length-append}
use Rattle.base_rules.specs.Answers.{reads}
use Rattle.base_rules.proofs.Laws.ByteLaws.{EachByte}
use Rattle.base_rules.proofs.Laws.Tests.{neither}
use Rattle.base_characters.specs.Characters.{chars}
use Rattle.base_characters.proofs.Laws.PairLaws.{length_characters}
use Rattle.bundle_rows.specs.Lists.{All}
use Rattle.bundle_rows.specs.Fields.{wrong_field}
use Rattle.bundle_rows.proofs.Laws.RowLaws.{field_right}
use Rattle.bundle_check.specs.Bundles.{check_of}
use Rattle.bundle_check.specs.Records.{Recorded, records_of, record_time}
use Rattle.bundle_check.specs.Walks.{some_wrong, end_of}
use Rattle.bundle_check.proofs.Laws.Accepted.{accepted_sound}
use Rattle.bundle_check.proofs.Laws.RecordLaws.{wrong_record, Timely}
use Rattle.bundle_check.proofs.Laws.HoldingLaws.{holdable_held, timely_held}
use Rattle.run_counting.specs.Counting.{kept_if}
use Rattle.run_listing.specs.Listings.{word_of}
use Rattle.run_listing.proofs.Laws.Longest.{chosen_short, line_short}
use Rattle.run_verdicts.specs.declared.Verdict.{Verdict}
use Rattle.run_verdicts.specs.declared.Verdict.TheVariants.{Wake, First, Resend, Refused, Counts, LeftOver, Late, Second, Damaged, WrongKind, Unasked}
use Rattle.run_verdicts.specs.Verdicts.{verdicts_of}
use Rattle.text_filling.specs.Texts.{text}
use Rattle.base_lent.specs.Pieces.{pieces}
use Rattle.text_filling.specs.Decimals.{decimal}
use Rattle.text_filling.specs.Holes.{filled_with}
use Rattle.text_filling.proofs.Laws.DecimalLaws.{decimal_few}
use Rattle.run_picture.specs.declared.pace.Pace.{Pace}
use Rattle.run_picture.specs.declared.page.Page.{Page}
use Rattle.run_picture.specs.Timing.{line_time, paced, unpaced, drawn_end, cut_at}
use Rattle.run_picture.specs.Pages.{has_rows, used_from, used_positions, scale_for, fields_for, page_with, page_for, page_of}
use Rattle.run_picture.specs.Elements.{style_text, legend_text, opens_text, title_text, mark_text, pauses_open_text, pause_text, lane_text}
use Rattle.text_stretches.specs.Between.{between, pair_between}
use Rattle.run_picture.specs.Elements.{verdict_text, place_text, box_text, row_drawn}
use Rattle.run_picture.specs.Pictures.{head_text, pauses_drawn, marks_drawn, rows_drawn, lane_drawn, lanes_drawn, picture_with, picture_of}
use Rattle.run_picture.specs.Shown.{picture_most}
use Rattle.run_picture.proofs.Laws.Told.{number_in, verdict_small}

-- ---- texts with numbers of at most ten digits

abbrev Short : ℕ → Type 0
Short n = n < 10 ^ 10

-- how many bytes a text with holes then has at most
abbrev weight : List ℕ → ℕ
weight [] = 0
weight (c ∷ t) = cond (eqb c 37) 10 1 + weight t

short_first : (ns : List ℕ) → All Short ns → Short (get_or ns 0 0)
short_first [] h = omega arith
short_first (n ∷ ns) h = h.0

short_rest : (ns : List ℕ) → All Short ns → All Short (drop 1 ns)
short_rest [] h = tt
short_rest (n ∷ ns) h = h.1

filled_few : (t ns : List ℕ) → All Short ns → length (filled_with t ns) ≤ weight t
unfolding filled_with
filled_few [] ns h = zero-le
filled_few (c ∷ t) ns h = go (eqb c 37) (filled_few t (drop 1 ns) (short_rest ns h)) (filled_few t ns h)
  where
    go : (hole : Bool) → length (filled_with t (drop 1 ns)) ≤ weight t → length (filled_with t ns) ≤ weight t
        → length (cond hole (decimal (get_or ns 0 0) ++ filled_with t (drop 1 ns)) (c ∷ filled_with t ns)) ≤ cond hole 10 1 + weight t
    go true p q =
        omega (arith, length-append (decimal (get_or ns 0 0)) (filled_with t (drop 1 ns)), decimal_few 9 (get_or ns 0 0) (short_first ns h))
    go false p q = omega arith

between_few : (a : List ℕ) (n : ℕ) (b : List ℕ) → Short n → length (between a n b) ≤ length a + length b + 10
between_few a n b h = omega (arith, length-append a (decimal n ++ b), length-append (decimal n) b, decimal_few 9 n h)

pair_few : (a : List ℕ) (m : ℕ) (b : List ℕ) (n : ℕ) (c : List ℕ) → Short m → Short n → length (pair_between a m b n c) ≤ length a + length b + length c + 20
pair_few a m b n c h k =
    omega (
      arith,
      length-append a (decimal m ++ (b ++ (decimal n ++ c))),
      length-append (decimal m) (b ++ (decimal n ++ c)),
      length-append b (decimal n ++ c),
      between_few [] n c k,
      decimal_few 9 m h,
    )

-- ---- rows, and how far they are drawn

-- what a row of an accepted bundle keeps to
record Fine (k : Recorded) : Type 0 where
  time : k.time < 4294967296
  line : line_time k ≤ 5522
  position : k.position ≤ 48

record Near (s : Pace) : Type 0 where
  cut : s.cut ≤ s.busy
  busy : s.busy ≤ 4294973267

cut_step : (c b t w : ℕ) → c ≤ b → c + (t - b - 120) / 240 * 240 ≤ max b (t + w + 450)
cut_step c b t w h = omega arith

end_step : (c b t w : ℕ) → c ≤ b → w ≤ 5522 → max b (t + w + 450) - (c + (t - b - 120) / 240 * 240) ≤ b - c + 6331
end_step c b t w h k = omega arith

paced_near : (s : Pace) (k : Recorded) → Near s → Fine k → Near (paced s k)
paced_near s k n f = record {
  cut = cut_step s.cut s.busy k.time (line_time k) n.cut;
  busy = omega (arith, n.busy, f.time, f.line);
}

end_near : (s : Pace) (ks : List Recorded) → Near s → All Fine ks → drawn_end (end_of paced s ks) ≤ drawn_end s + 6331 * length ks
unfolding end_of
end_near s [] n f = omega arith
end_near s (k ∷ ks) n f =
    let one : drawn_end (paced s k) ≤ drawn_end s + 6331 = end_step s.cut s.busy k.time (line_time k) n.cut f.0.line in
    omega (arith, one, end_near (paced s k) ks (paced_near s k n f.0) f.1)

cut_near : (x : ℕ) (s : Pace) (ks : List Recorded) → Near s → All Fine ks → cut_at x s ks ≤ 4294973267
unfolding cut_at
cut_near x s [] n f = omega (arith, n.cut, n.busy)
cut_near x s (k ∷ ks) n f = go (ltb x (paced s k).start) (cut_near x (paced s k) ks (paced_near s k n f.0) f.1)
  where
    go : (t : Bool) → cut_at x (paced s k) ks ≤ 4294973267 → cond t s.cut (cut_at x (paced s k) ks) ≤ 4294973267
    go true p = omega (arith, n.cut, n.busy)
    go false p = p

-- ---- pauses and marks

pause_few : (s : Pace) (k : Recorded) → Near s → Fine k → length (pause_text s (paced s k) k.time) ≤ 125
pause_few s k n f =
    let x : ℕ = s.busy - s.cut in
    let far : x < 10 ^ 10 = omega (arith, n.busy) in
    let wide : (paced s k).start - x < 10 ^ 10 = omega (arith, f.time) in
    let end : s.busy < 10 ^ 10 = omega (arith, n.busy) in
    let time : k.time < 10 ^ 10 = omega (arith, f.time) in
    let t : List ℕ = text "<rect class='pause' x='%' width='%' height='1'><title>nothing from % to %</title></rect>\n" in
    let ns : List ℕ = x ∷ ((paced s k).start - x) ∷ s.busy ∷ k.time ∷ [] in
    chosen_short (ltb s.cut (paced s k).cut) (filled_with t ns) [] 125 (filled_few t ns (far, (wide, (end, (time, tt))))) zero-le

pauses_few : (s : Pace) (ks : List Recorded) → Near s → All Fine ks → length (pauses_drawn s ks) ≤ 125 * length ks
unfolding pauses_drawn
pauses_few s [] n f = zero-le
pauses_few s (k ∷ ks) n f =
    omega (
      arith,
      length-append (pause_text s (paced s k) k.time) (pauses_drawn (paced s k) ks),
      pause_few s k n f.0,
      pauses_few (paced s k) ks (paced_near s k n f.0) f.1,
    )

mark_few : (bottom x t : ℕ) → Short bottom → Short x → t < 10 ^ 11 → length (mark_text bottom x t) ≤ 130
mark_few bottom x t h k l =
    let whole : t / 2400 < 10 ^ 10 = omega arith in
    let tenth : t % 2400 / 240 < 10 ^ 10 = omega arith in
    filled_few (text "<path class='grid' d='M% 90V%'/><text x='%' y='86' text-anchor='middle'>%.% s</text>\n")
    (x ∷ bottom ∷ x ∷ (t / 2400) ∷ (t % 2400 / 240) ∷ []) (k, (h, (k, (whole, (tenth, tt)))))

module _ (p : Page) (ks : List Recorded) (bottom : p.bottom ≤ 1248) (step : p.step ≤ 48000) (f : All Fine ks) where
  marks_few : (n x place : ℕ) → x + 240 * n ≤ 100000 → place + 48000 * n ≤ 100000000 → length (marks_drawn p ks n x place) ≤ 130 * n
  unfolding marks_drawn
  marks_few zero x place h l = zero-le
  marks_few (suc n) x place h l =
      let cut : cut_at place unpaced ks ≤ 4294973267 = cut_near place unpaced ks (record { cut = zero-le; busy = zero-le }) f in
      let t : ℕ = place + cut_at place unpaced ks in
      omega (
        arith,
        length-append (mark_text p.bottom x t) (marks_drawn p ks n (x + 240) (place + p.step)),
        mark_few p.bottom x t (omega (arith, bottom)) (omega arith) (omega (arith, cut)),
        marks_few n (x + 240) (place + p.step) (omega arith) (omega (arith, step)),
      )

-- ---- rows

verdict_few : (v : Verdict) (end : ℕ) → number_in v < 100 → Short end → length (verdict_text v end) ≤ 104
verdict_few Wake end h k = omega arith
verdict_few First end h k =
    between_few (text "<rect class='window' x='") end (text "' y='1' width='450' height='22'/>\n<g class='first'><title>first send: ") k
verdict_few Resend end h k =
    omega (arith, between_few (text "<rect class='window' x='") end (text "' y='1' width='450' height='22'/>\n<g class='resend'><title>resend: ") k)
verdict_few (Refused n) end h k = omega (arith, between_few (text "<g class='refused'><title>refused by ") n (text ": ") (omega arith))
verdict_few Counts end h k = omega arith
verdict_few LeftOver end h k = omega arith
verdict_few Late end h k = omega arith
verdict_few Second end h k = omega arith
verdict_few (Damaged n) end h k = omega (arith, between_few (text "<g class='damaged'><title>damaged, ") n (text ": ") (omega arith))
verdict_few WrongKind end h k = omega arith
verdict_few Unasked end h k = omega arith

place_few : (direction position time : ℕ) → Short position → Short time → length (place_text direction position time) ≤ 42
place_few direction position time h k =
    chosen_short (eqb direction 0) (pair_between (text "position ") position (text ", sent at ") time (text ", "))
    (pair_between (text "position ") position (text ", heard at ") time (text ", ")) 42
    (omega (arith, pair_few (text "position ") position (text ", sent at ") time (text ", ") h k))
    (omega (arith, pair_few (text "position ") position (text ", heard at ") time (text ", ") h k))

box_few : (direction x width : ℕ) → Short x → Short width → length (box_text direction x width) ≤ 72
box_few direction x width h k =
    chosen_short (eqb direction 0) (pair_between (text "</title><rect x='") x (text "' y='3' width='") width (text "' height='8'/></g>\n"))
    (pair_between (text "</title><rect x='") x (text "' y='13' width='") width (text "' height='8'/></g>\n")) 72
    (omega (arith, pair_few (text "</title><rect x='") x (text "' y='3' width='") width (text "' height='8'/></g>\n") h k))
    (omega (arith, pair_few (text "</title><rect x='") x (text "' y='13' width='") width (text "' height='8'/></g>\n") h k))

row_few : (k : Recorded) (v : Verdict) (x : ℕ) → Fine k → number_in v < 100 → x < 4294967296 → length (row_drawn k v x) ≤ 228
unfolding row_drawn
row_few k v x f h g =
    let first : List ℕ = verdict_text v (x + line_time k) in
    let second : List ℕ = place_text k.direction k.position k.time in
    let third : List ℕ = word_of (chars k.body) in
    let fourth : List ℕ = box_text k.direction x (line_time k) in
    let a : length first ≤ 104 = verdict_few v (x + line_time k) h (omega (arith, f.line)) in
    let b : length second ≤ 42 = place_few k.direction k.position k.time (omega (arith, f.position)) (omega (arith, f.time)) in
    let c : length third ≤ 10 = line_short (chars k.body) in
    let d : length fourth ≤ 72 = box_few k.direction x (line_time k) (omega arith) (omega (arith, f.line)) in
    omega (arith, length-append first (second ++ (third ++ fourth)), length-append second (third ++ fourth), length-append third fourth)

-- how many rows a position has, and how many all positions from one on have
abbrev count_of : ℕ → List Recorded → ℕ
count_of p [] = 0
count_of p (k ∷ ks) = cond (eqb k.position p) 1 0 + count_of p ks

abbrev count_from : ℕ → List Recorded → ℕ
count_from p [] = 0
count_from p (k ∷ ks) = cond (leb p k.position) 1 0 + count_from p ks

count_one : (q p : ℕ) → cond (eqb q p) 1 0 + cond (leb (p + 1) q) 1 0 ≤ cond (leb p q) 1 0
count_one q p = go (eqb q p) (leb (p + 1) q) (leb p q) refl refl refl
  where
    go : (a b c : Bool) → eqb q p ≡ a → leb (p + 1) q ≡ b → leb p q ≡ c → cond a 1 0 + cond b 1 0 ≤ cond c 1 0
    go true true c e f g = absurd (omega (arith, eqb-true q p e, leb-true (p + 1) q f))
    go true false true e f g = omega arith
    go true false false e f g = absurd (omega (arith, eqb-true q p e, leb-false p q g))
    go false true true e f g = omega arith
    go false true false e f g = absurd (omega (arith, leb-true (p + 1) q f, leb-false p q g))
    go false false c e f g = zero-le

count_on : (p : ℕ) (ks : List Recorded) → count_of p ks + count_from (p + 1) ks ≤ count_from p ks
count_on p [] = zero-le
count_on p (k ∷ ks) = omega (arith, count_one k.position p, count_on p ks)

count_most : (p : ℕ) (ks : List Recorded) → count_from p ks ≤ length ks
count_most p [] = zero-le
count_most p (k ∷ ks) = go (leb p k.position) (count_most p ks)
  where
    go : (t : Bool) → count_from p ks ≤ length ks → cond t 1 0 + count_from p ks ≤ suc (length ks)
    go true h = omega arith
    go false h = omega arith

module _ (vs : List Verdict) (told : (i : ℕ) → number_in (get_or vs i Unasked) < 100) where
  rows_few : (p : ℕ) (s : Pace) (i : ℕ) (ks : List Recorded) → All Fine ks → length (rows_drawn p vs s i ks) ≤ 228 * count_of p ks
  unfolding rows_drawn
  rows_few p s i [] f = zero-le
  rows_few p s i (k ∷ ks) f = go (eqb k.position p) (rows_few p (paced s k) (i + 1) ks f.1)
    where
      x : ℕ
      x = (paced s k).start

      row : List ℕ
      row = row_drawn k (get_or vs i Unasked) x

      more : List ℕ
      more = rows_drawn p vs (paced s k) (i + 1) ks

      go : (t : Bool) → length more ≤ 228 * count_of p ks → length (cond t row [] ++ more) ≤ 228 * (cond t 1 0 + count_of p ks)
      go true h = omega (arith, length-append row more, row_few k (get_or vs i Unasked) x f.0 (told i) (omega (arith, f.0.time)))
      go false h = omega (arith, h)

  -- ---- lanes
  module _ (p : Page) (ks : List Recorded) (f : All Fine ks) (right : p.right ≤ 100000) (wide : p.wide ≤ 100000) (span : p.span ≤ 10000000) where
    open_few : (y position : ℕ) → y ≤ 4096 → position ≤ 48 → length (lane_text p y position) ≤ 281
    open_few y position h k =
        let low : y + 16 < 10 ^ 10 = omega arith in
        let top : y < 10 ^ 10 = omega arith in
        let own : position < 10 ^ 10 = omega arith in
        let a : p.right < 10 ^ 10 = omega arith in
        let b : p.wide < 10 ^ 10 = omega arith in
        let c : p.span < 10 ^ 10 = omega arith in
        filled_few
        (pieces text
        ("<text x='50' y='%' text-anchor='end'>%</text><text x='%' y='%'>%</text><path class='grid' d='M60 %h%'/>\n"
        ∷ "<svg x='60' y='%' width='%' height='24' viewBox='0 0 % 24' preserveAspectRatio='none'>\n"
        ∷ []))
        ((y + 16) ∷ position ∷ p.right ∷ (y + 16) ∷ position ∷ y ∷ p.wide ∷ y ∷ p.wide ∷ p.span ∷ [])
        (low, (own, (a, (low, (own, (top, (b, (top, (b, (c, tt))))))))))

    lane_few : (y position : ℕ) → y ≤ 4096 → position ≤ 48 → length (lane_drawn p vs ks y position) ≤ 288 + 228 * count_of position ks
    unfolding lane_drawn
    lane_few y position h k =
        let rows : List ℕ = rows_drawn position vs unpaced 0 ks in
        omega (
          arith,
          length-append (lane_text p y position) (rows ++ text "</svg>\n"),
          length-append rows (text "</svg>\n"),
          open_few y position h k,
          rows_few position unpaced 0 ks f,
        )

    lanes_few : (n y first : ℕ) → first + n ≤ 49 → y + 24 * n ≤ 4096
        → length (lanes_drawn p vs ks y (used_from ks n first)) ≤ 288 * n + 228 * count_from first ks
    unfolding used_from lanes_drawn
    lanes_few zero y first h k = zero-le
    lanes_few (suc n) y first h k =
        go (has_rows first ks) (lanes_few n (y + 24) (first + 1) (omega arith) (omega arith)) (lanes_few n y (first + 1) (omega arith) (omega arith))
      where
        more : ℕ → List ℕ
        more z = lanes_drawn p vs ks z (used_from ks n (first + 1))

        go : (t : Bool) → length (more (y + 24)) ≤ 288 * n + 228 * count_from (first + 1) ks → length (more y) ≤ 288 * n + 228 * count_from (first + 1) ks
            → length (lanes_drawn p vs ks y (kept_if t first (used_from ks n (first + 1)))) ≤ 288 * suc n + 228 * count_from first ks
        go true a b =
            omega (arith, a, length-append (lane_drawn p vs ks y first) (more (y + 24)), lane_few y first (omega arith) (omega arith), count_on first ks)
        go false a b = omega (arith, b, count_on first ks)

-- ---- sizes

used_few : (ks : List Recorded) (n first : ℕ) → length (used_from ks n first) ≤ n
unfolding used_from
used_few ks zero first = zero-le
used_few ks (suc n) first = go (has_rows first ks) (used_few ks n (first + 1))
  where
    go : (t : Bool) → length (used_from ks n (first + 1)) ≤ n → length (kept_if t first (used_from ks n (first + 1))) ≤ suc n
    go true h = omega arith
    go false h = omega arith

-- with each scale the whole is at most 125 fields wide
record Scaled (s f : ℕ) : Type 0 where
  scale : s ≤ 200
  fields : f ≤ 125
  span : 240 * s * f ≤ 6000000

scaled : (end : ℕ) → end ≤ 3241472 → Scaled (scale_for end) (fields_for (scale_for end) end)
scaled end h = go (ltb end 600000) (ltb end 1500000) (ltb end 3000000) refl refl refl
  where
    go : (a b c : Bool) → ltb end 600000 ≡ a → ltb end 1500000 ≡ b → ltb end 3000000 ≡ c
        → Scaled (cond a 20 (cond b 50 (cond c 100 200))) (fields_for (cond a 20 (cond b 50 (cond c 100 200))) end)
    go true b c e f g =
        let l : end < 600000 = ltb-true end 600000 e in
        record { scale = omega arith; fields = omega arith; span = omega arith }
    go false true c e f g =
        let l : end < 1500000 = ltb-true end 1500000 f in
        record { scale = omega arith; fields = omega arith; span = omega arith }
    go false false true e f g =
        let l : end < 3000000 = ltb-true end 3000000 g in
        record { scale = omega arith; fields = omega arith; span = omega arith }
    go false false false e f g = record { scale = omega arith; fields = omega arith; span = omega arith }

head_few : (p : Page) → p.rows ≤ 512 → p.lanes ≤ 48 → p.scale ≤ 200 → p.width ≤ 100000 → p.height ≤ 4096 → length (head_text p) ≤ 3000
unfolding style_text legend_text
head_few p rows lanes scale width height =
    let a : p.width < 10 ^ 10 = omega arith in
    let b : p.height < 10 ^ 10 = omega arith in
    let c : p.rows < 10 ^ 10 = omega arith in
    let d : p.lanes < 10 ^ 10 = omega arith in
    let e : p.scale / 10 < 10 ^ 10 = omega arith in
    let f : p.scale % 10 < 10 ^ 10 = omega arith in
    let opens : length (opens_text p) ≤ 80 =
    filled_few (text "<svg xmlns='http://www.w3.org/2000/svg' width='%' height='%'>\n") (p.width ∷ p.height ∷ []) (a, (b, tt)) in
    let title : length (title_text p) ≤ 178 =
    filled_few (text "<rect width='%' height='%' fill='#fff'/>\n<text class='title' x='60' y='22'>Rows: %, positions: %, a mark every %.% s</text>\n")
    (p.width ∷ p.height ∷ p.rows ∷ p.lanes ∷ (p.scale / 10) ∷ (p.scale % 10) ∷ []) (a, (b, (c, (d, (e, (f, tt)))))) in
    omega (
      arith,
      length-append (opens_text p) (style_text ++ (title_text p ++ legend_text)),
      length-append style_text (title_text p ++ legend_text),
      length-append (title_text p) legend_text,
    )

behind_few : (p : Page) → p.wide ≤ 100000 → p.bottom ≤ 4096 → p.span ≤ 10000000 → length (pauses_open_text p) ≤ 113
behind_few p wide bottom span =
    let a : p.wide < 10 ^ 10 = omega arith in
    let b : p.bottom - 96 < 10 ^ 10 = omega arith in
    let c : p.span < 10 ^ 10 = omega arith in
    filled_few (text "<svg x='60' y='96' width='%' height='%' viewBox='0 0 % 1' preserveAspectRatio='none'>\n") (p.wide ∷ (p.bottom - 96) ∷ p.span ∷ [])
    (a, (b, (c, tt)))

-- ---- the whole

-- what a page keeps to
record Fits (p : Page) : Type 0 where
  rows : p.rows ≤ 512
  lanes : p.lanes ≤ 48
  scale : p.scale ≤ 200
  fields : p.fields ≤ 125
  step : p.step ≤ 48000
  wide : p.wide ≤ 100000
  right : p.right ≤ 100000
  width : p.width ≤ 100000
  bottom : p.bottom ≤ 1248
  height : p.height ≤ 4096
  span : p.span ≤ 10000000

page_fits : (rows lanes end : ℕ) → rows ≤ 512 → lanes ≤ 48 → end ≤ 3241472 → Fits (page_for rows lanes end)
page_fits rows lanes end h k l = go (scale_for end) (fields_for (scale_for end) end) (scaled end l)
  where
    go : (s f : ℕ) → Scaled s f → Fits (page_with rows lanes s f)
    go s f g = record {
      rows = h;
      lanes = k;
      scale = g.scale;
      fields = g.fields;
      step = omega (arith, g.scale);
      wide = omega (arith, g.fields);
      right = omega (arith, g.fields);
      width = omega (arith, g.fields);
      bottom = omega arith;
      height = omega arith;
      span = omega (arith, g.span);
    }

module _ (p : Page) (fits : Fits p) (vs : List Verdict) (told : (i : ℕ) → number_in (get_or vs i Unasked) < 100) (ks : List Recorded) (few : length ks ≤ 512)
    (f : All Fine ks) where
  with_few : length (picture_with p vs ks) ≤ picture_most
  unfolding picture_with
  with_few =
      let pauses : List ℕ = pauses_drawn unpaced ks in
      let behind : List ℕ = pauses_open_text p ++ (pauses ++ text "</svg>\n") in
      let marks : List ℕ = marks_drawn p ks (p.fields + 1) 60 0 in
      let lanes : List ℕ = lanes_drawn p vs ks 96 (used_positions ks) in
      omega (
        arith,
        few,
        length-append (head_text p) (behind ++ (marks ++ (lanes ++ text "</svg>\n"))),
        length-append behind (marks ++ (lanes ++ text "</svg>\n")),
        length-append (pauses_open_text p) (pauses ++ text "</svg>\n"),
        length-append pauses (text "</svg>\n"),
        length-append marks (lanes ++ text "</svg>\n"),
        length-append lanes (text "</svg>\n"),
        head_few p fits.rows fits.lanes fits.scale fits.width fits.height,
        behind_few p fits.wide (omega (arith, fits.bottom)) fits.span,
        pauses_few unpaced ks (record { cut = zero-le; busy = zero-le }) f,
        marks_few p ks fits.bottom fits.step f (p.fields + 1) 60 0 (omega (arith, fits.fields)) (omega (arith, fits.fields)),
        fits.fields,
        lanes_few vs told p ks f fits.right fits.wide fits.span 48 96 1 (omega arith) (omega arith),
        count_most 1 ks,
      )

-- ---- the rows of an accepted bundle

all_fine : (before : ℕ) (ks : List Recorded) → some_wrong wrong_record record_time before ks ≡ false → All Timely ks → All Fine ks
unfolding some_wrong
all_fine before [] w t = tt
all_fine before (k ∷ ks) w t =
    let p = neither (wrong_record before k) (some_wrong wrong_record record_time k.time ks) w in
    let q = neither (wrong_field k.position k.direction (length k.body)) (ltb k.time before) p.0 in
    let r = field_right k.position k.direction (length k.body) q.0 in (
      record { time = omega (arith, t.0); line = omega (arith, length_characters k.body, r.size_most); position = r.position_most },
      all_fine k.time ks p.1 t.1,
    )

-- No picture of an accepted bundle has more bytes than this.
pub longest : (b : List ℕ) (n : ℕ) → EachByte b → check_of b ≡ reads n → length (picture_of b) ≤ picture_most
unfolding picture_of page_of
longest b n bytes e =
    let ks : List Recorded = records_of b in
    let sound = (accepted_sound b n e).0 in
    let timely = timely_held b sound bytes in
    let held = holdable_held b sound timely in
    let few : length ks ≤ 512 = held.few in
    let f = all_fine 0 ks held.fields timely in
    let end : drawn_end (end_of paced unpaced ks) ≤ 3241472 = omega (arith, few, end_near unpaced ks (record { cut = zero-le; busy = zero-le }) f) in
    with_few (page_of ks) (page_fits (length ks) (length (used_positions ks)) (drawn_end (end_of paced unpaced ks)) few (used_few ks 48 1) end)
    (verdicts_of ks) (verdict_small ks) ks few f
