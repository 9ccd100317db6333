-- What is known of a bundle that the check accepts.
use Prim.Native.Nat.{ℕ, ◌+◌, ◌*◌, ◌≤◌, ◌<◌}
use mathlib.Core.Bool.{Bool, false}
use mathlib.Core.List.{List, [], ◌∷◌}
use mathlib.Core.Path.{◌≡◌, sym, ap, ◌∙◌}
use native.Mathlib.Omega.{arith}
use borrow.Author.Tests.{ltb-false, le-ltb}
use lib.Dec.{ltb}
use lib.ListN.{length, get_or, take, drop}
use lib.Seq.{drop-drop}
use Rattle.base_rules.specs.Lists.{any}
use Rattle.base_characters.specs.Characters.{over, chars}
use Rattle.base_rules.specs.Answers.{reads}
use Rattle.base_rules.proofs.Laws.AnswerLaws.{reads_same}
use Rattle.base_rules.proofs.Laws.TestLaws.{all_passed, all_passing}
use Rattle.bundle_check.proofs.Laws.Walks.{none_wrong}
use Rattle.bundle_check.specs.Walks.{end_of}
use Rattle.bundle_rows.specs.Rows.{most_rows, row_of, first_offset, blank_row, unchecked_row}
use Rattle.bundle_rows.proofs.Laws.RowLaws.{length_rows, row_at_lem, row_in}
use Rattle.bundle_check.specs.RowRules.{wrong_rows, next_offset, wrong_place, wrong_places, bodies_end}
use Rattle.bundle_check.proofs.Laws.RowRules.{place_right}
use Rattle.bundle_check.specs.Bundles.{most_bytes, count_of, contents_of, bodies_of, check_of}

-- none of the refusals applies
pub record SoundBundle (b : List ℕ) : Type 0 where
  pub fits : length b ≤ most_bytes
  pub counted : 2 ≤ length b
  pub few : count_of b ≤ most_rows
  pub whole : first_offset (count_of b) ≤ length b
  pub fields : wrong_rows 0 (contents_of b) ≡ false
  pub places : wrong_places (length b) (first_offset (count_of b)) (contents_of b) ≡ false
  pub full : length b ≤ bodies_end (first_offset (count_of b)) (contents_of b)
  pub range : any over (chars (bodies_of b)) ≡ false

-- the refusals of the check, each with its test
abbrev tests : List ℕ → List (ℕ × Bool)
tests b =
    let first = first_offset (count_of b) in
    (30, ltb most_bytes (length b))
    ∷ ((31, ltb (length b) 2)
    ∷ ((32, ltb most_rows (count_of b))
    ∷ ((33, ltb (length b) first)
    ∷ ((34, wrong_rows 0 (contents_of b))
    ∷ ((35, wrong_places (length b) first (contents_of b))
    ∷ ((36, ltb (bodies_end first (contents_of b)) (length b)) ∷ ((37, any over (chars (bodies_of b))) ∷ [])))))))

-- The check accepts exactly the sound bundles, and gives their count.
pub accepted_sound : (b : List ℕ) (n : ℕ) → check_of b ≡ reads n → SoundBundle b × (n ≡ count_of b)
unfolding check_of
accepted_sound b n e =
    let q = all_passed (tests b) (reads (count_of b)) e in
    let p = q.0 in (
      record {
        fits = ltb-false _ _ p.0;
        counted = ltb-false _ _ p.1.0;
        few = ltb-false _ _ p.1.1.0;
        whole = ltb-false _ _ p.1.1.1.0;
        fields = p.1.1.1.1.0;
        places = p.1.1.1.1.1.0;
        full = ltb-false _ _ p.1.1.1.1.1.1.0;
        range = p.1.1.1.1.1.1.1.0;
      },
      sym (reads_same q.1),
    )

pub sound_accepted : (b : List ℕ) → SoundBundle b → check_of b ≡ reads (count_of b)
unfolding check_of
sound_accepted b s =
    let first = first_offset (count_of b) in
    all_passing (tests b) (reads (count_of b)) (
      le-ltb most_bytes (length b) s.fits,
      (
        le-ltb (length b) 2 s.counted,
        (
          le-ltb most_rows (count_of b) s.few,
          (
            le-ltb (length b) first s.whole,
            (s.fields, (s.places, (le-ltb (bodies_end first (contents_of b)) (length b) s.full, (s.range, tt)))),
          ),
        ),
      ),
    )

-- Every body lies inside its bundle.
pub body_inside : (b : List ℕ) (i : ℕ) → SoundBundle b → i < count_of b
    → (get_or (contents_of b) i blank_row).offset + (get_or (contents_of b) i blank_row).length ≤ length b
body_inside b i s h =
    let place : ℕ = end_of next_offset (first_offset (count_of b)) (take i (contents_of b)) in
    let p = place_right (length b) place (get_or (contents_of b) i blank_row)
    (none_wrong (wrong_place (length b)) next_offset (first_offset (count_of b)) (contents_of b) i blank_row s.places
    (omega (arith, length_rows (count_of b) (drop 2 b)))) in
    omega (arith, p)

-- The row that is read without the check.
pub row_there : (b : List ℕ) (i n : ℕ) → check_of b ≡ reads n → i < n → unchecked_row b i ≡ get_or (contents_of b) i blank_row
row_there b i n e h =
    let s = accepted_sound b n e in
    row_in b i (omega (arith, s.0.few, s.1)) (omega (arith, s.0.whole, s.1))
    ∙ sym (row_at_lem (count_of b) i (drop 2 b) (omega (arith, s.1)) ∙ ap row_of (drop-drop (12 * i) 2 b))
