-- The verdicts for C: what is answered there, and what is left in memory that was lent.
use Rattle.std.specs.Prelude.{ℕ, ◌*◌, ◌≤◌, List, ◌≡◌, leb, length, get_or, take, Result, Ok, Err}
use Rattle.base_rules.specs.Answers.{Answer, reads, refusal, refuse, within, follow}
use Rattle.base_rules.specs.declared.refusals.Refusal.{Refusal}
use Rattle.base_lent.specs.Copying.{laid}
use Rattle.base_lent.specs.Lent.{done, needs, Leaves}
use Rattle.base_lent.specs.Pieces.{pieces}
use Rattle.bundle_rows.specs.Rows.{most_rows}
use Rattle.host_bundle.specs.Lent.{left_in}
use Rattle.run_verdicts.specs.declared.Verdict.{Verdict}
use Rattle.run_verdicts.specs.declared.Verdict.TheVariants.{Unasked}
use Rattle.run_verdicts.specs.declared.Verdicts.{Verdicts}
use Rattle.host_verdicts.specs.Records.{verdict_record}

-- ---- what is answered

-- one record for each verdict
abbrev pub records_told : List Verdict → List ℕ
records_told verdicts = pieces verdict_record verdicts

-- 21 where there is no room for them, behind all others
abbrev pub verdicts_into : Answer (List Verdict) → List ℕ → Answer (List Verdict)
verdicts_into a out = follow a (λ verdicts. needs (4 * length verdicts) out (reads verdicts))

-- the verdict of row i; 39 no such row
abbrev pub verdict_in : Answer (List Verdict) → ℕ → Answer Verdict
verdict_in a i = follow a (λ verdicts. refuse 39 (leb (length verdicts) i) (reads (get_or verdicts i Unasked)))

-- 21 where there is no room for its record, before all others
abbrev pub verdict_into : Answer (List Verdict) → ℕ → List ℕ → Answer Verdict
verdict_into a i out = needs 4 out (verdict_in a i)

-- 0, the records in the places lent for them and their number in its own; or 256 plus the refusal number, and all is as it was.
pub record GivesVerdicts (a : Answer (List Verdict)) (out : List ℕ) (count r : ℕ) (out' : List ℕ) (count' : ℕ) : Type 0 where
  pub tells : Leaves done records_told a out out' r
  pub counts : count' ≡ left_in count (within (λ verdicts. length verdicts) a)

abbrev pub GivesVerdict : Answer Verdict → List ℕ → ℕ → List ℕ → Type 0
GivesVerdict a out r out' = Leaves done verdict_record a out out' r

-- ---- what the walk's answer says

-- the verdicts in the first so many places
abbrev pub verdicts_among : List Verdict → ℕ → List Verdict
verdicts_among verdicts n = take n verdicts

abbrev pub answer_shown : Result Verdicts Refusal → Answer (List Verdict)
answer_shown (Ok all) = reads (verdicts_among all.verdicts all.count)
answer_shown (Err e) = refusal e.0

-- What the walk's answer always is: no more verdicts than rows of a bundle, and a place for each row.
pub record Full (all : Verdicts) : Type 0 where
  pub few : all.count ≤ most_rows
  pub whole : length all.verdicts ≡ most_rows

abbrev pub InFull : Result Verdicts Refusal → Type 0
InFull (Ok all) = Full all
InFull (Err e) = Unit {0}

-- what the records leave in the places
abbrev pub PutsVerdicts : List Verdict → List ℕ → List ℕ → Type 0
PutsVerdicts verdicts before after = after ≡ laid before 0 (records_told verdicts)
