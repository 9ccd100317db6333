-- Words that stand in one text, a row for each number, each row with a line feed behind it.
use Rattle.std.specs.Prelude.{ℕ, zero, suc, cond, List, [], ◌∷◌, eqb, length}
use Rattle.base_rules.specs.Answers.{Answer, reads, refuse}

-- the text from row n on
unfoldable pub rows_from : ℕ → List ℕ → List ℕ
rows_from zero s = s
rows_from (suc n) [] = []
rows_from (suc n) (b ∷ s) = cond (eqb b 10) (rows_from n s) (rows_from (suc n) s)

-- the first row
unfoldable pub first_row : List ℕ → List ℕ
first_row [] = []
first_row (b ∷ s) = cond (eqb b 10) [] (b ∷ first_row s)

-- row n; 100 where it is empty
abbrev pub row_of_words : List ℕ → ℕ → Answer (List ℕ)
row_of_words s n = refuse 100 (eqb (length (first_row (rows_from n s))) 0) (reads (first_row (rows_from n s)))
