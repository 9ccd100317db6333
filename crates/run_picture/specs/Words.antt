-- The word for a line as a number: what the listing says of a line, held for each row.
use Rattle.std.specs.Prelude.{ℕ, ◌-◌, ◌<◌, cond, List, [], ◌∷◌, ◌≡◌, ltb, length, get_or}
use Rattle.text_filling.specs.Texts.{text}
use Rattle.base_characters.specs.Characters.{chars}
use Rattle.bundle_rows.specs.Rows.{most_rows}
use Rattle.run_counting.specs.Ears.{row_in}
use Rattle.run_listing.specs.Listings.{refused_text, word_of}

-- 0 to 5 a wake-up and the five telegrams, from 6 on a refusal
unfoldable pub numbered_word : ℕ → List ℕ
numbered_word n =
    cond (ltb n 6) (get_or (text "wake" ∷ text "ack" ∷ text "read" ∷ text "enter" ∷ text "leave" ∷ text "data" ∷ []) n []) (refused_text (n - 6))

-- For each of the first so many rows the number of its word, in its place.
pub record Worded (b : List ℕ) (rows : ℕ) (words : List ℕ) : Type 0 where
  pub places : length words ≡ most_rows
  pub so : (i : ℕ) → i < rows → numbered_word (get_or words i 0) ≡ word_of (chars (row_in b i).body)
