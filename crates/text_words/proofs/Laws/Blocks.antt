-- The words as they stand in the code, a row for each number; that each row has the words for its number is one computed test.
use Prim.Native.Nat.{ℕ, zero, suc, ◌+◌, ◌-◌, ◌≤◌, ◌<◌}
use mathlib.Core.Bool.{Bool, true, false, not, true≢false}
use mathlib.Core.List.{List, [], ◌∷◌, ◌++◌}
use mathlib.Core.Path.{◌≡◌, refl, sym, ap, ◌∙◌}
use native.Mathlib.Omega.{arith}
use native.Mathlib.Nat.{sub-zero}
use borrow.Author.Tests.{eqb-true, ltb-true, ltb-false, ne_eqb, not-false}
use lib.Dec.{eqb, ltb}
use lib.ListN.{length}
use Rattle.base_rules.specs.Lists.{any}
use Rattle.base_rules.specs.Answers.{Answer, reads, refusal}
use Rattle.base_rules.proofs.Laws.Tests.{every_below, below, by_test, neither}
use Rattle.text_words.specs.Refusals.{Row, refusal_texts, text_of, words_in}
use Rattle.text_filling.specs.Texts.{text}
use Rattle.text_words.specs.Rows.{row_of_words, rows_from, first_row}
use Rattle.base_lent.specs.Same.{same}
use Rattle.base_lent.proofs.Laws.Same.{same_equal}

-- the words of an answer, none of a refusal
abbrev words_or : Answer (List ℕ) → List ℕ
words_or (reads words) = words
words_or (refusal n) = []

-- so many rows, from a number on
unfoldable pub block : ℕ → ℕ → List ℕ
block first zero = []
block first (suc count) = words_or (text_of first) ++ (10 ∷ block (suc first) count)

unfoldable alike : Answer (List ℕ) → Answer (List ℕ) → Bool
alike (reads s) (reads t) = same s t
alike (reads s) (refusal n) = false
alike (refusal m) (reads t) = false
alike (refusal m) (refusal n) = eqb m n

alike_eq : (a b : Answer (List ℕ)) → alike a b ≡ true → a ≡ b
unfolding alike
alike_eq (reads s) (reads t) e = ap reads (same_equal s t e)
alike_eq (reads s) (refusal n) e = absurd (true≢false (sym e))
alike_eq (refusal m) (reads t) e = absurd (true≢false (sym e))
alike_eq (refusal m) (refusal n) e = ap refusal (eqb-true m n e)

-- ---- the rows of a block, and what comes behind them, up to a number
module _ (first count most : ℕ) where
  abbrev right_at : ℕ → Bool
  right_at k = alike (row_of_words (block first count) k) (text_of (first + k))

  right : every_below most right_at ≡ true → (n : ℕ) → first ≤ n → n < first + most → row_of_words (block first count) (n - first) ≡ text_of n
  right all n h g =
      let whole : first + (n - first) ≡ n = omega arith in
      alike_eq (row_of_words (block first count) (n - first)) (text_of (first + (n - first))) (below most right_at all (n - first) (omega arith)) ∙ ap text_of whole

pub row_of_lines : (n : ℕ) → n < 30 → row_of_words (block 0 22) n ≡ text_of n
unfolding block same alike text_of words_in rows_from first_row
row_of_lines n h = rw sub-zero at (right 0 22 30 refl n (omega arith) (omega arith))

pub row_of_bundles : (n : ℕ) → 30 ≤ n → n < 50 → row_of_words (block 30 14) (n - 30) ≡ text_of n
unfolding block same alike text_of words_in rows_from first_row
row_of_bundles n g h = right 30 14 20 refl n g (omega arith)

pub row_of_steps : (n : ℕ) → 50 ≤ n → n < 102 → row_of_words (block 50 52) (n - 50) ≡ text_of n
unfolding block same alike text_of words_in rows_from first_row
row_of_steps n g h = right 50 52 52 refl n g (omega arith)

-- ---- past the last number there are no words
late : Row → Bool
late r = ltb 101 r.number

past : (rows : List Row) (n : ℕ) → any late rows ≡ false → 101 < n → words_in rows n ≡ refusal 100
unfolding any words_in late
past [] n e h = refl
past (r ∷ rows) n e h =
    let both = neither (late r) (any late rows) e in
    let early : r.number ≤ 101 = ltb-false 101 r.number both.0 in
    let other : n ≡ r.number → ⊥ = λ same. omega arith in
    rw (ne_eqb n r.number other) (past rows n both.1 h)

pub no_words : (n : ℕ) → 102 ≤ n → text_of n ≡ refusal 100
unfolding text_of any late
no_words n h = past refusal_texts n refl h

-- ---- words are shorter than 256 bytes: so an answer below 256 is their length, and no refusal
long : Row → Bool
long r = not (ltb (length (text r.words)) 256)

short_in : (rows : List Row) (n : ℕ) (words : List ℕ) → any long rows ≡ false → words_in rows n ≡ reads words → length words < 256
unfolding any words_in long
short_in [] n words e found = let z : ◌≡◌ {A = ℕ} 0 1 = cc in absurd (omega arith)
short_in (r ∷ rows) n words e found =
    let both = neither (long r) (any long rows) e in
    let one : length (text r.words) < 256 = ltb-true (length (text r.words)) 256 (not-false (ltb (length (text r.words)) 256) both.0) in
    by_test (eqb n r.number)
    (λ t. let same : text r.words ≡ words = let e : reads (text r.words) ≡ reads words = rw t at found in cc in omega (arith, one, ap length same))
    (λ t. short_in rows n words both.1 (rw t at found))

pub words_short : (n : ℕ) (words : List ℕ) → text_of n ≡ reads words → length words < 256
unfolding text_of any long
words_short n words found = short_in refusal_texts n words refl found
