-- The walk along the rows of an accepted bundle, which notes the numbers of the rows that count in the first places.
use Prim.Native.Nat.{ℕ, suc, ◌+◌, ◌-◌, ◌≤◌, ◌<◌, zero-le}
use mathlib.Core.Bool.{Bool, true, false}
use mathlib.Core.List.{List, [], ◌∷◌, ◌++◌, append-nil, append_assoc}
use mathlib.Core.Path.{◌≡◌, refl, sym, ap, ap₂, ◌∙◌}
use native.Mathlib.Numerals.{add-one}
use native.Mathlib.Omega.{arith}
use lib.ListN.{length, get_or, take, drop, set, replicate, get_or-map, drop_of_length-le, take-append-drop, length-set}
use lib.Seq.{drop-cons, drop-drop, take-suc-set, drop-set-lt, length-take-le}
use Rattle.base_rules.specs.Answers.{reads}
use Rattle.bundle_rows.specs.Rows.{most_rows, blank_row}
use Rattle.bundle_check.specs.Bundles.{check_of, contents_of}
use Rattle.bundle_check.specs.Records.{Recorded, records_of, blank_record}
use Rattle.bundle_check.proofs.Laws.Accepted.{accepted_sound, row_there}
use Rattle.bundle_check.proofs.Laws.HoldingLaws.{record_for, records_held, length_held}
use Rattle.bundle_check.proofs.Laws.BodyLaws.{few_rows}
use Rattle.run_counting.specs.declared.ear.Open.{Open}
use Rattle.std.specs.Prelude.{Option, None}
use Rattle.run_counting.specs.declared.ear.Turn.{Turn}
use Rattle.run_counting.specs.Counting.{kept_if, numbers_from, numbers_of}
use Rattle.run_counting.specs.Ears.{passed_by, row_in}
use Rattle.run_counting.specs.Shown.{Numbers}
use Rattle.run_counting.proofs.Laws.Hearing.{ear_of, Next, next_row}

-- a row as it is read without the check
pub record_there : (b : List ℕ) (i n : ℕ) → check_of b ≡ reads n → i < n → get_or (records_of b) i blank_record ≡ row_in b i
record_there b i n e h =
    let s = accepted_sound b n e in
    ap (λ (l : List Recorded). get_or l i blank_record) (records_held b s.0) ∙ get_or-map (record_for b) (contents_of b) i blank_row
    ∙ ap (record_for b) (sym (row_there b i n e h))

pub length_records : (b : List ℕ) (n : ℕ) → check_of b ≡ reads n → length (records_of b) ≡ n
length_records b n e = let s = accepted_sound b n e in length_held b s.0 ∙ sym s.1

-- the rows from a row on
pub rows_from : (b : List ℕ) (i n : ℕ) → check_of b ≡ reads n → i < n → drop i (records_of b) ≡ row_in b i ∷ drop (suc i) (records_of b)
rows_from b i n e h =
    drop-cons (records_of b) i blank_record (omega (arith, length_records b n e))
    ∙ ap (λ (k : Recorded). k ∷ drop (suc i) (records_of b)) (record_there b i n e h)

-- ---- the loop

pub record Noted (b : List ℕ) (position n i : ℕ) (ear : Option Open) (found : ℕ) (rows : List ℕ) : Type 0 where
  pub accepted : check_of b ≡ reads n
  pub inside : i ≤ n
  pub few : found ≤ i
  pub whole : length rows ≡ most_rows
  pub stretch : List Recorded
  pub hears : ear ≡ ear_of stretch
  pub so : take found rows ++ numbers_from position i stretch (drop i (records_of b)) ≡ numbers_of position (records_of b)
  pub rest : drop found rows ≡ replicate (most_rows - found) 0

module _ {b : List ℕ} {position n : ℕ} where
  pub noted_none : check_of b ≡ reads n → Noted b position n 0 None 0 (replicate most_rows 0)
  noted_none e = record { accepted = e; inside = zero-le; few = zero-le; whole = refl; stretch = []; hears = refl; so = refl; rest = refl }

  module _ {i found : ℕ} {ear : Option Open} {rows : List ℕ} {turn : Turn} (g : Noted b position n i ear found rows) (h : i < n)
      (e : turn ≡ passed_by position ear (row_in b i)) where
    abbrev row : Recorded
    row = row_in b i

    next : Next position i g.stretch row (drop (suc i) (records_of b)) turn
    next = next_row position i g.stretch row (drop (suc i) (records_of b)) turn (e ∙ ap (λ (x : Option Open). passed_by position x row) g.hears)

    on : (counts : Bool) → turn.counts ≡ counts
        → take found rows ++ kept_if counts i (numbers_from position (suc i) next.after (drop (suc i) (records_of b))) ≡ numbers_of position (records_of b)
    on counts c =
        ap (λ (t : Bool). take found rows ++ kept_if t i (numbers_from position (suc i) next.after (drop (suc i) (records_of b)))) (sym c)
        ∙ ap (λ (l : List ℕ). take found rows ++ l) (sym next.so ∙ ap (numbers_from position i g.stretch) (sym (rows_from b i n g.accepted h))) ∙ g.so

    pub noted_not : turn.counts ≡ false → Noted b position n (i + 1) turn.ear found rows
    noted_not c = record {
      accepted = g.accepted;
      inside = omega arith;
      few = omega (arith, g.few);
      whole = g.whole;
      stretch = next.after;
      hears = next.left;
      so = rw add-one (on false c);
      rest = g.rest;
    }

    pub noted_next : turn.counts ≡ true → Noted b position n (i + 1) turn.ear (found + 1) (set rows found i)
    noted_next c =
        let room : found < length rows = omega (arith, g.few, g.whole, few_rows b n g.accepted) in
        record {
          accepted = g.accepted;
          inside = omega arith;
          few = omega (arith, g.few);
          whole = length-set rows found i ∙ g.whole;
          stretch = next.after;
          hears = next.left;
          so = rw (add-one, add-one, take-suc-set rows found i room, append_assoc (take found rows) (i ∷ [])) (on true c);
          rest = zeros room;
        }
      where
        zeros : found < length rows → drop (found + 1) (set rows found i) ≡ replicate (most_rows - (found + 1)) 0
        zeros room =
            let more : most_rows - found ≡ suc (most_rows - (found + 1)) = omega (arith, g.whole) in
            drop-set-lt (found + 1) rows found i (omega arith) ∙ sym (drop-drop 1 found rows)
            ∙ ap (drop 1) (g.rest ∙ ap (λ (m : ℕ). replicate m 0) more)

  pub noted_all : {i found : ℕ} {ear : Option Open} {rows : List ℕ} → Noted b position n i ear found rows → n ≤ i → Numbers b position found rows
  unfolding numbers_from
  noted_all {i} {found} {ear} {rows} g h =
      let all : take found rows ≡ numbers_of position (records_of b) =
      sym (append-nil (take found rows))
      ∙ ap (λ (l : List Recorded). take found rows ++ numbers_from position i g.stretch l)
      (sym (drop_of_length-le (records_of b) {i = i} (omega (arith, length_records b n g.accepted))))
      ∙ g.so in
      let size : length (take found rows) ≡ found = length-take-le found rows (omega (arith, g.few, g.inside, g.whole, few_rows b n g.accepted)) in
      let count : found ≡ length (numbers_of position (records_of b)) = sym size ∙ ap length all in
      record {
        count = count;
        holds = sym (take-append-drop found rows) ∙ ap₂ (λ (x y : List ℕ). x ++ y) all (g.rest ∙ ap (λ (m : ℕ). replicate (most_rows - m) 0) count);
      }
