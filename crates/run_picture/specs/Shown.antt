-- What drawing a bundle answers, and what it leaves in lent memory.
use Rattle.std.specs.Prelude.{ℕ, Bool, List, Result, ◌≡◌, ◌<◌, length, get_or}
use Rattle.base_rules.specs.Answers.{Answer, reads, within}
use Rattle.base_rules.specs.Shown.{shown}
use Rattle.base_rules.specs.declared.refusals.Refusal.{Refusal}
use Rattle.base_lent.specs.Lent.{stored, placed}
use Rattle.bundle_check.specs.Bundles.{check_of}
use Rattle.bundle_check.specs.Records.{records_of}
use Rattle.run_verdicts.specs.declared.Verdict.{Verdict}
use Rattle.run_verdicts.specs.Verdicts.{verdicts_of}
use Rattle.run_verdicts.specs.Shown.{in_places}
use Rattle.run_picture.specs.declared.page.Page.{Page}
use Rattle.run_picture.specs.Timing.{Placed}
use Rattle.run_picture.specs.Pages.{page_of, Bounded, Used}
use Rattle.run_picture.specs.Words.{Worded}
use Rattle.run_picture.specs.Pictures.{picture_of}

-- so many places are enough for the picture of any accepted bundle
abbrev pub picture_most : ℕ
picture_most = 262144

-- 30 to 37 for the bundle, 21 where there are fewer places than the picture has bytes; else how many bytes it has
abbrev pub drawn_in : List ℕ → List ℕ → Answer ℕ
drawn_in b out = placed (length (picture_of b)) out (within (λ n. length (picture_of b)) (check_of b))

-- what the places then hold: the picture in the first ones and nothing beyond; after a refusal, what they held
abbrev pub picture_stored : List ℕ → List ℕ → List ℕ
picture_stored b out = stored (λ (n : ℕ). picture_of b) out (drawn_in b out)

-- What is known of the rows of an accepted bundle before they are drawn: the sizes, which positions have rows, where each row is drawn, the number of its
-- word, and its verdict.
pub record Drawable (b : List ℕ) (rows : ℕ) (page : Page) (used : List Bool) (starts words : List ℕ) (verdicts : List Verdict) : Type 0 where
  pub bytes : (i : ℕ) → get_or b i 0 < 256
  pub accepted : check_of b ≡ reads rows
  pub sizes : page ≡ page_of (records_of b)
  pub bounded : Bounded page
  pub positions : Used (records_of b) used
  pub places : Placed (records_of b) starts
  pub named : Worded b rows words
  pub ruled : length verdicts ≡ 512
  pub judged : verdicts ≡ in_places (verdicts_of (records_of b))

-- The answer for a bundle and a stretch of memory, and what that memory then holds.
pub record Draws (b out : List ℕ) (r : Result ℕ Refusal) (after : List ℕ) : Type 0 where
  pub answer : r ≡ shown (drawn_in b out)
  pub holds : after ≡ picture_stored b out
