-- The loop that draws the rows that are left together at the beginning of the contents.
use Prim.Native.Nat.{ℕ, zero, suc, ◌+◌, ◌*◌, ◌≤◌, ◌<◌, zero-le}
use mathlib.Core.Bool.{Bool, true, false, cond}
use mathlib.Core.List.{List, [], ◌∷◌, ◌++◌, append_assoc, append-nil}
use mathlib.Core.Path.{◌≡◌, refl, sym, ap, ap₂, ◌∙◌}
use native.Mathlib.Numerals.{add-one}
use native.Mathlib.Omega.{arith}
use lib.ListN.{length, get_or, take, drop, length-append, length-drop, drop_of_length-le}
use lib.Seq.{drop-cons, length-take-le, take-append-le, drop-append-le}
use Rattle.base_rules.specs.Answers.{reads}
use Rattle.base_lent.specs.Copying.{laid}
use Rattle.base_lent.proofs.Laws.Copying.{laid_none, laid_length, laid_on}
use Rattle.bundle_rows.specs.Rows.{most_rows, row_of, rows_of, first_offset, blank_row, unchecked_row, body_in}
use Rattle.bundle_rows.specs.declared.Row.{Row}
use Rattle.bundle_rows.proofs.Laws.RowLaws.{length_rows, row_in, rows_front}
use Rattle.bundle_check.specs.Bundles.{count_of, contents_of, check_of}
use Rattle.bundle_check.specs.RowRules.{next_offset, wrong_place}
use Rattle.bundle_check.specs.Walks.{end_of}
use Rattle.bundle_check.proofs.Laws.Accepted.{SoundBundle, accepted_sound, row_there, body_inside}
use Rattle.bundle_check.proofs.Laws.BodyLaws.{count_rows, few_rows}
use Rattle.bundle_check.proofs.Laws.HoldingLaws.{end_least}
use Rattle.bundle_check.proofs.Laws.RowRules.{place_right}
use Rattle.bundle_check.proofs.Laws.Walks.{none_wrong}
use Rattle.bundle_sweep.specs.Sweeping.{without}
use Rattle.bundle_sweep.specs.Writing.{row_goes, rows_left, Drawn}
use Rattle.bundle_sweep.proofs.Laws.Laid.{laid_past}

-- ---- a row is made of twelve bytes, whatever stands behind them

row_front : (s : List ℕ) → row_of (take 12 s) ≡ row_of s
unfolding rows_of
row_front s = ap (λ (l : List Row). get_or l 0 blank_row) (rows_front 1 12 s (omega arith))

pub rows_behind : (m : ℕ) (x z : List ℕ) → length x ≡ 12 * m → rows_of (suc m) (x ++ z) ≡ rows_of m x ++ (row_of z ∷ [])
unfolding rows_of
rows_behind zero [] z e = refl
rows_behind zero (a ∷ x) z e = let never : ⊥ = omega arith in absurd never
rows_behind (suc m) x z e =
    let first : row_of (x ++ z) ≡ row_of x = sym (row_front (x ++ z)) ∙ ap row_of (take-append-le 12 x z (omega arith)) ∙ row_front x in
    ap₂ (λ (r : Row) (l : List Row). r ∷ l) first
    (ap (rows_of (suc m)) (drop-append-le 12 x z (omega arith)) ∙ rows_behind m (drop 12 x) z (omega (arith, length-drop 12 x)))

-- no body begins in front of the first
pub offset_behind : (b : List ℕ) (i : ℕ) → SoundBundle b → i < count_of b → first_offset (count_of b) ≤ (get_or (contents_of b) i blank_row).offset
offset_behind b i s h =
    let place : ℕ = end_of next_offset (first_offset (count_of b)) (take i (contents_of b)) in
    let p = place_right (length b) place (get_or (contents_of b) i blank_row)
    (none_wrong (wrong_place (length b)) next_offset (first_offset (count_of b)) (contents_of b) i blank_row s.places
    (omega (arith, length_rows (count_of b) (drop 2 b)))) in
    omega (arith, p.0, end_least (first_offset (count_of b)) (take i (contents_of b)))

-- ---- the loop

pub record Drawing (position : ℕ) (b : List ℕ) (n i kept : ℕ) (now : List ℕ) : Type 0 where
  pub accepted : check_of b ≡ reads n
  pub inside : i ≤ n
  pub few : kept ≤ i
  pub bytes : List ℕ
  pub size : length bytes ≡ 12 * kept
  pub rows : rows_of kept bytes ++ without (row_goes position b) (drop i (contents_of b)) ≡ rows_left position b
  pub so : now ≡ laid b 2 bytes

module _ {position : ℕ} {b : List ℕ} {n : ℕ} where
  pub drawing_none : check_of b ≡ reads n → Drawing position b n 0 0 b
  unfolding rows_of
  drawing_none e = record {
    accepted = e;
    inside = zero-le;
    few = zero-le;
    bytes = [];
    size = refl;
    rows = refl;
    so = sym (laid_none b 2);
  }

  module _ {i kept : ℕ} {now : List ℕ} (g : Drawing position b n i kept now) where
    abbrev sound : SoundBundle b
    sound = (accepted_sound b n g.accepted).0

    whole : first_offset n ≤ length b
    whole = omega (arith, sound.whole, (accepted_sound b n g.accepted).1)

    pub drawing_length : length now ≡ length b
    drawing_length = ap length g.so ∙ laid_length b g.bytes 2 (omega (arith, g.size, g.few, g.inside, whole))

    pub drawing_few : n ≤ most_rows
    drawing_few = few_rows b n g.accepted

    pub drawing_whole : first_offset n ≤ length now
    drawing_whole = omega (arith, whole, drawing_length)

    -- what stands behind the rows that are drawn together is as it was
    still : (p : ℕ) → first_offset kept ≤ p → p ≤ length b → drop p now ≡ drop p b
    still p h k = ap (drop p) g.so ∙ laid_past b 2 g.bytes p (omega (arith, g.size)) k

    module _ (h : i < n) where
      abbrev row : Row
      row = get_or (contents_of b) i blank_row

      row_old : row_of (drop (first_offset i) b) ≡ row
      row_old = sym (row_in b i (omega (arith, drawing_few)) (omega (arith, whole))) ∙ row_there b i n g.accepted h

      row_now : unchecked_row now i ≡ row
      row_now =
          row_in now i (omega (arith, drawing_few)) (omega (arith, drawing_whole))
          ∙ ap row_of (still (first_offset i) (omega (arith, g.few)) (omega (arith, whole))) ∙ row_old

      row_inside : row.offset + row.length ≤ length b
      row_inside = body_inside b i sound (omega (arith, (accepted_sound b n g.accepted).1))

      body-now : body_in now row ≡ body_in b row
      body-now =
          ap (take row.length)
          (still row.offset
          (omega (arith, g.few, g.inside, offset_behind b i sound (omega (arith, (accepted_sound b n g.accepted).1)), (accepted_sound b n g.accepted).1))
          (omega (arith, row_inside)))

      pub drawing-inside : (unchecked_row now i).offset + (unchecked_row now i).length ≤ length now
      drawing-inside = rw (row_now, drawing_length) row_inside

      gone_old : {gone : Bool} → gone ≡ row_goes position now (unchecked_row now i) → row_goes position b row ≡ gone
      gone_old e = sym (e ∙ rw row_now (rw body-now))

      next : drop i (contents_of b) ≡ row ∷ drop (suc i) (contents_of b)
      next = drop-cons (contents_of b) i blank_row (omega (arith, count_rows b n g.accepted))

      rest : {gone : Bool} → row_goes position b row ≡ gone → without (row_goes position b) (drop i (contents_of b))
          ≡ cond gone (without (row_goes position b) (drop (suc i) (contents_of b))) (row ∷ without (row_goes position b) (drop (suc i) (contents_of b)))
      unfolding without
      rest e = rw (next, e)

      module _ {gone : Bool} (e : gone ≡ row_goes position now (unchecked_row now i)) where
        pub drawing-gone : gone ≡ true → Drawing position b n (i + 1) kept now
        drawing-gone t = record {
          accepted = g.accepted;
          inside = omega arith;
          few = omega (arith, g.few);
          bytes = g.bytes;
          size = g.size;
          rows = rw add-one (ap (λ (l : List Row). rows_of kept g.bytes ++ l) (sym (rest (gone_old e ∙ t))) ∙ g.rows);
          so = g.so;
        }

        pub drawing-next : gone ≡ false → {after : List ℕ} → after ≡ laid now (2 + 12 * kept) (take 12 (drop (2 + 12 * i) now))
            → Drawing position b n (i + 1) (kept + 1) after
        drawing-next t {after} f =
            let twelve : List ℕ = take 12 (drop (first_offset i) b) in
            let place : 2 + 12 * kept ≡ 2 + length g.bytes = omega (arith, g.size) in
            let one : length twelve ≡ 12 = length-take-le 12 (drop (first_offset i) b) (omega (arith, length-drop (first_offset i) b, whole)) in
            record {
              accepted = g.accepted;
              inside = omega arith;
              few = omega (arith, g.few);
              bytes = g.bytes ++ twelve;
              size = omega (arith, length-append g.bytes twelve, one, g.size);
              rows =
                  rw (add-one, add-one)
                  (ap (λ (l : List Row). l ++ without (row_goes position b) (drop (suc i) (contents_of b)))
                  (rows_behind kept g.bytes twelve g.size ∙ ap (λ (r : Row). rows_of kept g.bytes ++ (r ∷ []))
                  (row_front (drop (first_offset i) b) ∙ row_old))
                  ∙ append_assoc (rows_of kept g.bytes) (row ∷ []) (without (row_goes position b) (drop (suc i) (contents_of b)))
                  ∙ ap (λ (l : List Row). rows_of kept g.bytes ++ l) (sym (rest (gone_old e ∙ t))) ∙ g.rows);
              so =
                  f
                  ∙ ap (λ (l : List ℕ). laid now (2 + 12 * kept) (take 12 l)) (still (first_offset i) (omega (arith, g.few)) (omega (arith, whole)))
                  ∙ ap₂ (λ (l : List ℕ) (k : ℕ). laid l k twelve) g.so place ∙ laid_on b 2 g.bytes twelve (omega (arith, whole));
            }

    pub drawing_all : n ≤ i → Drawn position b kept now
    unfolding without
    drawing_all h =
        let none : drop i (contents_of b) ≡ [] = drop_of_length-le (contents_of b) {i = i} (omega (arith, count_rows b n g.accepted)) in
        record {
          bytes = g.bytes;
          size = g.size;
          rows =
              sym (append-nil (rows_of kept g.bytes))
              ∙ ap (λ (l : List Row). rows_of kept g.bytes ++ without (row_goes position b) l) (sym none) ∙ g.rows;
          holds = g.so;
        }
