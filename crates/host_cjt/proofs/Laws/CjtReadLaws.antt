-- Laws: the ways out of checking and reading.
use Prim.Native.Nat.{ℕ, ◌+◌, ◌%◌}
use mathlib.Core.Bool.{Bool, true, false}
use mathlib.Core.List.{List}
use mathlib.Core.Path.{◌≡◌, refl, sym, ap, subst, ◌∙◌}
use borrow.Author.Tests.{eq-eqb, ne_eqb, ltb-false}
use lib.Dec.{ltb}
use lib.ListN.{length}
use Rattle.base_rules.specs.Answers.{Answer, reads, refusal, within}
use Rattle.base_characters.specs.Characters.{chars}
use Rattle.base_lent.specs.Copying.{copied}
use Rattle.base_lent.specs.Lent.{Leaves}
use Rattle.base_lent.proofs.Laws.LentLaws.{none_copied, leaves_all, leaves_copied}
use Rattle.cjt_rules.specs.declared.CjtTelegram.{CjtTelegram}
use Rattle.cjt_rules.specs.declared.CjtTelegram.TheVariants as telegrams
use Rattle.std.specs.Prelude.{Result, Ok, Err}
use Rattle.base_rules.specs.Shown.{shown}
use Rattle.base_rules.specs.declared.refusals.Refusal.{Refusal}
use Rattle.base_rules.proofs.Laws.AnswerLaws.{shown_ok, shown_err}
use Rattle.cjt_rules.specs.declared.CjtKind.{CjtKind}
use Rattle.cjt_rules.specs.declared.CjtKind.TheVariants as kinds
use Rattle.cjt_rules.specs.CjtLines.{read_cjt_line}
use Rattle.cjt_rules.specs.CjtOutlines.{cjt_kind_of}
use Rattle.cjt_rules.specs.CjtHost.{cjt_kind_number, cjt_line_number, cjt_host_number}
use Rattle.cjt_records.specs.CjtRecords.{cjt_bytes}
use Rattle.cjt_records.proofs.Laws.CjtRecordLaws.{cjt_length}
use Rattle.host_cjt.specs.CjtCalls.{read_cjt_for}

-- ---- checking

abbrev pub outline_number : Result CjtKind Refusal → ℕ
outline_number (Err r) = 256 + r.0
outline_number (Ok kinds.Request) = 1
outline_number (Ok kinds.Answer) = 2

outline_number_lem : (a : Answer CjtTelegram) → outline_number (shown (within cjt_kind_of a)) ≡ cjt_line_number a
outline_number_lem (refusal n) = refl
outline_number_lem (reads (telegrams.Request q)) = refl
outline_number_lem (reads (telegrams.Answer a)) = refl

pub odd_number : (b : List ℕ) → length b % 2 ≡ 1 → 273 ≡ cjt_host_number b
odd_number b e = rw (eq-eqb (length b % 2) 1 e)

-- by the outline, as the code finds it to be
pub even_number : (b : List ℕ) → (length b % 2 ≡ 1 → ⊥) → {v w : Result CjtKind Refusal} → v ≡ shown (within cjt_kind_of (read_cjt_line (chars b))) → v ≡ w → outline_number w
    ≡ cjt_host_number b
even_number b n e f = ap outline_number (sym f ∙ e) ∙ outline_number_lem (read_cjt_line (chars b)) ∙ sym (rw (ne_eqb (length b % 2) 1 n))

-- ---- reading

module _ (line out : List ℕ) {s : Result CjtTelegram Refusal} (e : s ≡ shown (read_cjt_line line)) where
  abbrev Left : List ℕ → ℕ → Type 0
  Left after r = Leaves cjt_kind_number cjt_bytes (read_cjt_for line out) out after r

  pub line_refused : {r : Refusal} → s ≡ Err r → Left out (256 + r.0)
  line_refused {r} f = rw (shown_err (read_cjt_line line) r.0 (sym e ∙ f)) (record { answer = refl; left = refl })

  -- bytes that were handed to `store`, as they are left and told
  module _ {t : CjtTelegram} (f : s ≡ Ok t) {w after : List ℕ} {short : Bool} (d : w ≡ cjt_bytes t)
      (g : short ≡ ltb (length out) (length w)) (l : after ≡ copied out 0 w) where
    test_of : {u : Bool} → short ≡ u → ltb (length out) 80 ≡ u
    test_of h = let size : length w ≡ 80 = ap length d ∙ cjt_length t in rw size at (sym g ∙ h)

    pub line_short : short ≡ true → Left after (256 + 21)
    line_short h =
        let b : read_cjt_for line out ≡ refusal 21 = rw (shown_ok (read_cjt_line line) t (sym e ∙ f), test_of h) in
        subst (λ (x : List ℕ). Left x (256 + 21)) (sym (l ∙ none_copied out w (sym g ∙ h))) (leaves_all cjt_bytes out cjt_kind_number b)

    pub line_read : short ≡ false → {r : ℕ} → r ≡ cjt_kind_number t → Left after r
    line_read h q =
        let b : read_cjt_for line out ≡ reads t = rw (shown_ok (read_cjt_line line) t (sym e ∙ f), test_of h) in
        leaves_copied cjt_bytes out cjt_kind_number b d (ltb-false (length out) (length w) (sym g ∙ h)) l q
