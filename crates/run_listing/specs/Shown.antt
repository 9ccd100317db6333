-- 01, "The form to use in each place": the number and values for each case of the answer.
use Rattle.std.specs.Prelude.{ℕ, List, Result, ◌≡◌, length}
use Rattle.base_rules.specs.Answers.{Answer, reads}
use Rattle.base_rules.specs.declared.refusals.Refusal.{Refusal}
use Rattle.base_rules.specs.Shown.{shown}
use Rattle.base_lent.specs.Lent.{stored, needs}
use Rattle.run_listing.specs.Listings.{listing_of}

-- 21: fewer places than the text needs; else how many bytes it has
abbrev pub listed_in : List ℕ → List ℕ → Answer ℕ
listed_in text out = needs (length text) out (reads (length text))

-- what the places then hold: the text in the first ones and nothing beyond; after a refusal, what they held
abbrev pub text_stored : List ℕ → List ℕ → List ℕ
text_stored text out = stored (λ (n : ℕ). text) out (listed_in text out)

-- The answer for a bundle and a stretch of memory, and what that memory then holds.
pub record Lists (b out : List ℕ) (r : Result ℕ Refusal) (after : List ℕ) : Type 0 where
  pub answer : r ≡ shown (listed_in (listing_of b) out)
  pub holds : after ≡ text_stored (listing_of b) out
