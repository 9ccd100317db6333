-- Laws of the contents in columns for C: from what turning a bundle into them promises, for each of its two cases.
use Prim.Native.Nat.{ℕ, ◌+◌}
use mathlib.Core.List.{List}
use mathlib.Core.Path.{◌≡◌, refl, sym, ap, ◌∙◌}
use Rattle.base_rules.specs.Answers.{Answer, reads, refusal}
use Rattle.base_rules.proofs.Laws.TestLaws.{not_refused}
use Rattle.base_lent.specs.Lent.{told, done, Leaves}
use Rattle.std.specs.Prelude.{Result, Ok, Err}
use Rattle.base_rules.specs.declared.refusals.Refusal.{Refusal}
use Rattle.base_rules.specs.Shown.{refused_by}
use Rattle.base_rules.proofs.Laws.AnswerLaws.{shown_same}
use Rattle.bundle_columns.specs.Columns.{Columns}
use Rattle.bundle_columns.specs.Shown.{count_kept, Turns}

module _ {written : Columns → List ℕ} (a : Answer Columns) {before after : List ℕ} {s : Result ℕ Refusal} (t : Turns written a before s after) {n : ℕ} where
  pub turns_done : s ≡ Ok n → Leaves done written a before after 0
  turns_done e = record { answer = sym (go a (shown_same (count_kept a) (reads n) (sym t.answer ∙ e))); left = t.left }
    where
      go : (x : Answer Columns) → count_kept x ≡ reads n → told done x ≡ 0
      go (refusal k) g = absurd (not_refused g)
      go (reads c) g = refl

  pub turns_refused : s ≡ Err (refused_by n) → Leaves done written a before after (256 + n)
  turns_refused e = record { answer = sym (go a (shown_same (count_kept a) (refusal n) (sym t.answer ∙ e))); left = t.left }
    where
      go : (x : Answer Columns) → count_kept x ≡ refusal n → told done x ≡ 256 + n
      go (refusal k) g = let same : k ≡ n = cc in ap (λ (m : ℕ). 256 + m) same
      go (reads c) g = absurd (not_refused (sym g))
