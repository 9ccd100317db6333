-- What is answered of the rows that count, by what the check answers.
use Prim.Native.Nat.{ℕ}
use mathlib.Core.Bool.{true, false}
use mathlib.Core.List.{List}
use mathlib.Core.Path.{◌≡◌, sym, ◌∙◌}
use Rattle.base_rules.specs.Answers.{reads, refusal}
use Rattle.bundle_rows.specs.Fields.{wrong_position}
use Rattle.std.specs.Prelude.{Result, Ok, Err}
use Rattle.base_rules.specs.declared.refusals.Refusal.{Refusal}
use Rattle.base_rules.specs.Shown.{shown, refused_by}
use Rattle.bundle_check.specs.Bundles.{check_of}
use Rattle.bundle_check.specs.Records.{records_of}
use Rattle.base_rules.proofs.Laws.AnswerLaws.{shown_same}
use Rattle.run_counting.specs.declared.Counted.{Counted}
use Rattle.run_counting.specs.Counting.{numbers_of, counting_of}
use Rattle.run_counting.specs.Shown.{numbered, Numbers}

module _ (b : List ℕ) (position : ℕ) where
  pub counting_refused : (k : ℕ) → check_of b ≡ refusal k → counting_of b position ≡ refusal k
  unfolding counting_of
  counting_refused k e = rw e

  pub counting_outside : (n : ℕ) → check_of b ≡ reads n → wrong_position position ≡ true → counting_of b position ≡ refusal 34
  unfolding counting_of
  counting_outside n e w = rw (e, w)

  pub counting_reads : (n : ℕ) → check_of b ≡ reads n → wrong_position position ≡ false → counting_of b position ≡ reads (numbers_of position (records_of b))
  unfolding counting_of
  counting_reads n e w = rw (e, w)

-- what the code's answer of the check tells
module _ (b : List ℕ) {c : Result ℕ Refusal} (e : c ≡ shown (check_of b)) where
  pub check_refused : {k : ℕ} → c ≡ Err (refused_by k) → check_of b ≡ refusal k
  check_refused {k} f = shown_same (check_of b) (refusal k) (sym e ∙ f)

  pub check_reads : {n : ℕ} → c ≡ Ok n → check_of b ≡ reads n
  check_reads {n} f = shown_same (check_of b) (reads n) (sym e ∙ f)

-- what the walk leaves is the numbers in their places
pub numbers_shown : {b : List ℕ} {position found : ℕ} {rows : List ℕ} → Numbers b position found rows
    → ◌≡◌ {A = Counted} (record { count = found; rows = rows }) (numbered (numbers_of position (records_of b)))
numbers_shown p = rw (p.count, p.holds)
