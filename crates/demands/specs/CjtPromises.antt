-- How much the promises for CJ/T 188 lines say: which numbers there are, that a refusal leaves all as it was, that a result is settled, and that no
-- two answers are shown alike.
use Rattle.std.specs.Prelude.{ℕ, List, [], ◌∷◌, ◌≡◌, Result, length}
use Rattle.base_rules.specs.Answers.{Answer, refusal}
use Rattle.base_rules.specs.declared.refusals.Refusal.{Refusal}
use Rattle.base_characters.specs.Carrying.{Writes}
use Rattle.cjt_rules.specs.declared.CjtTelegram.{CjtTelegram}
use Rattle.cjt_rules.specs.CjtLines.{read_cjt_line}
use Rattle.base_rules.specs.Shown as answers
use Rattle.cjt_rules.specs.CjtWriting.{write_cjt_line}
use Rattle.demands.specs.Refusals.{By}
use Rattle.demands.specs.Settled.{Settled}
use Rattle.demands.specs.OneToOne.{Apart}

-- ---- the numbers

abbrev pub cjt_numbers : List ℕ
cjt_numbers = 1 ∷ 2 ∷ 3 ∷ 80 ∷ 81 ∷ 82 ∷ 83 ∷ 84 ∷ 85 ∷ []

-- Reading a line gives 1 to 3 or 80 to 85.
abbrev pub CjtReadingBy : Type 0
CjtReadingBy = (s : List ℕ) → By cjt_numbers (read_cjt_line s)

-- Writing gives 20 or 21.
abbrev pub CjtWritingBy : Type 0
CjtWritingBy = (t : CjtTelegram) (places : ℕ) → By (20 ∷ 21 ∷ []) (write_cjt_line t places)

-- ---- what is left, and settled

abbrev pub CjtWritingUnchanged : Type 0
CjtWritingUnchanged =
    (n : ℕ) (t : CjtTelegram) (before after : List ℕ) (r : Result ℕ Refusal) → write_cjt_line t (length before) ≡ refusal n
    → Writes (write_cjt_line t (length before)) before after r → after ≡ before

abbrev pub WritesSettled : Type 0
WritesSettled = (a : Answer (List ℕ)) (before : List ℕ) → Settled (λ (x : Result ℕ Refusal × List ℕ). Writes a before x.1 x.0)

-- ---- one to one

abbrev pub CjtReadingApart : Type 0
CjtReadingApart = Apart (answers.shown {A = CjtTelegram})
