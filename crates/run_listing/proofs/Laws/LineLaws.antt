-- Laws about the lines of a listing, as the code that writes them uses them.
use Prim.Native.Nat.{ℕ, ◌+◌, ◌*◌, ◌≤◌, ◌<◌, zero-le}
use mathlib.Core.List.{List, [], ◌∷◌, ◌++◌, append_assoc, append-nil}
use mathlib.Core.Path.{◌≡◌, refl, sym, ap, ap₂, ◌∙◌}
use native.Mathlib.Nat.{add-zero}
use native.Mathlib.Numerals.{add-one}
use native.Mathlib.Omega.{arith}
use lib.ListN.{length, get_or, take, length-append}
use lib.Seq.{take-suc, take_all, length-take-le}
use Rattle.base_rules.specs.Answers.{reads, refusal}
use Rattle.base_lent.specs.Copying.{copied}
use Rattle.bundle_rows.specs.declared.Row.{Row}
use Rattle.bundle_rows.specs.Rows.{blank_row}
use Rattle.bundle_check.specs.Bundles.{contents_of, check_of}
use Rattle.run_listing.specs.declared.texts.Line.{Line}
use Rattle.text_filling.specs.Texts.{text}
use Rattle.text_filling.specs.Decimals.{decimal}
use Rattle.run_listing.specs.Listings.{direction_text, row_text, line_for, lines_for, refused_text, first_line, listing_of}
use Rattle.run_listing.specs.Writing.{line_text, Holds}
use Rattle.run_listing.proofs.Laws.Writing.{take_copied}

-- a line of the listing, put together from the left
pub row_joined : (p d t : ℕ) (w : List ℕ) {r0 r1 r2 r3 r4 r5 r6 : List ℕ}
    → r0 ≡ [] → r1 ≡ r0 ++ decimal p → r2 ≡ r1 ++ (text "," ++ (direction_text d ++ text ",")) → r3 ≡ r2 ++ decimal t
    → r4 ≡ r3 ++ text "," → r5 ≡ r4 ++ w → r6 ≡ r5 ++ text "\n" → r6 ≡ row_text p d t w
unfolding row_text
row_joined p d t w e0 e1 e2 e3 e4 e5 e6 = rw (e6, e5, e4, e3, e2, e1, e0) (simp append_assoc)

-- one row more
lines_behind : (b : List ℕ) (rows : List Row) (r : Row) → lines_for b (rows ++ (r ∷ [])) ≡ lines_for b rows ++ line_for b r
unfolding lines_for
lines_behind b [] r = append-nil (line_for b r)
lines_behind b (x ∷ rows) r =
    ap (λ (l : List ℕ). line_for b x ++ l) (lines_behind b rows r) ∙ sym (append_assoc (line_for b x) (lines_for b rows) (line_for b r))

-- A loop that writes lines: what stood in front, and behind it the lines of the rows so far.
pub record Lined (b : List ℕ) (rows : List Row) (at : ℕ) (before : List ℕ) (i next : ℕ) (out : List ℕ) : Type 0 where
  pub inside : i ≤ length rows
  pub room : at + 48 * length rows ≤ length before
  pub near : next ≤ at + 48 * i
  pub same : length out ≡ length before
  pub count : next ≡ at + length (lines_for b (take i rows))
  pub so : take next out ≡ take at before ++ lines_for b (take i rows)

module _ {b : List ℕ} {rows : List Row} {at : ℕ} {before : List ℕ} where
  pub lined_none : at + 48 * length rows ≤ length before → Lined b rows at before 0 at before
  unfolding lines_for
  lined_none h = record {
    inside = zero-le;
    room = h;
    near = omega arith;
    same = refl;
    count = sym (add-zero at);
    so = sym (append-nil (take at before));
  }

  pub lined_next : {i next : ℕ} {out after : List ℕ} {l : Line} → Lined b rows at before i next out → i < length rows
      → Holds 48 l (line_for b (get_or rows i blank_row)) → after ≡ copied out next (line_text l) → length after ≡ length out
      → Lined b rows at before (i + 1) (next + l.size) after
  lined_next {i} {next} {out} {after} {l} g h t e k = record {
    inside = omega arith;
    room = g.room;
    near = omega (arith, g.near, t.small);
    same = k ∙ g.same;
    count =
        ap₂ (λ (x y : ℕ). x + y) g.count (sym size ∙ ap length t.so) ∙ rw (more, length-append) (omega arith);
    so =
        rw e (ap (λ (n : ℕ). take (next + n) (copied out next (line_text l))) (sym size)
        ∙ take_copied out next (line_text l) (omega (arith, g.near, g.room, g.same, t.small, size))
        ∙ ap₂ (λ (x y : List ℕ). x ++ y) g.so t.so
        ∙ append_assoc (take at before) (lines_for b (take i rows)) (line_for b (get_or rows i blank_row))
        ∙ ap (λ (x : List ℕ). take at before ++ x) (sym more));
  }
    where
      size : length (line_text l) ≡ l.size
      size = length-take-le l.size l.bytes (omega (arith, t.small, t.whole))

      more : lines_for b (take (i + 1) rows) ≡ lines_for b (take i rows) ++ line_for b (get_or rows i blank_row)
      more = rw add-one (ap (lines_for b) (take-suc rows i blank_row h) ∙ lines_behind b (take i rows) (get_or rows i blank_row))

  pub lined_all : {i next : ℕ} {out : List ℕ} → Lined b rows at before i next out → length rows ≤ i
      → (next ≡ at + length (lines_for b rows)) × (take next out ≡ take at before ++ lines_for b rows)
  lined_all {i} {next} {out} g h =
      let all : take i rows ≡ rows = take_all i rows h in
      (rw all at g.count, rw all at g.so)

-- the whole listing, as it is written for an accepted bundle, and for a refused one
pub listing_written : (b : List ℕ) (n : ℕ) (d out : List ℕ) {r : ℕ} → check_of b ≡ reads n
    → 29 ≤ length d → r ≡ 29 + length (lines_for b (contents_of b)) → take r out ≡ take 29 (copied d 0 first_line) ++ lines_for b (contents_of b)
    → (r ≡ length (listing_of b)) × (take r out ≡ listing_of b)
unfolding listing_of
listing_written b n d out e h k t =
    rw e (
      k ∙ sym (length-append first_line (lines_for b (contents_of b))),
      t ∙ ap (λ (l : List ℕ). l ++ lines_for b (contents_of b)) (take_copied d 0 first_line h),
    )

pub refusal_written : (b : List ℕ) (k : ℕ) (d : List ℕ) (l : Line) → check_of b ≡ refusal k → l.size ≤ 48 → length l.bytes ≡ 48
    → 48 ≤ length d → line_text l ≡ refused_text k ++ text "\n" → (l.size ≡ length (listing_of b)) × (take l.size (copied d 0 (line_text l)) ≡ listing_of b)
unfolding listing_of
refusal_written b k d l e h g room t =
    let size : length (line_text l) ≡ l.size = length-take-le l.size l.bytes (omega arith) in
    let all : take (0 + length (line_text l)) (copied d 0 (line_text l)) ≡ line_text l = take_copied d 0 (line_text l) (omega arith) in
    let same : 0 + length (line_text l) ≡ l.size = omega arith in
    rw e (sym size ∙ ap length t, ap (λ (n : ℕ). take n (copied d 0 (line_text l))) (sym same) ∙ all ∙ t)
