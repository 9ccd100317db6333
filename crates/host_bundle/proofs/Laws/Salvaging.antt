-- Laws of `specs/Salvaging`: too little room, and the two cases of what salvaging told.
use Prim.Native.Nat.{ℕ, ◌+◌, ◌≤◌}
use mathlib.Core.Bool.{true, false}
use mathlib.Core.List.{List, [], ◌∷◌, append-nil}
use mathlib.Core.Path.{◌≡◌, refl, sym, ap, ◌∙◌}
use native.Mathlib.Omega.{arith}
use borrow.Author.Tests.{ltb-false}
use lib.Dec.{ltb}
use lib.ListN.{length}
use Rattle.base_rules.specs.Answers.{Answer, reads, refusal}
use Rattle.base_lent.specs.Copying.{copied}
use Rattle.base_lent.specs.Lent.{stored, done, Leaves}
use Rattle.base_lent.proofs.Laws.LentLaws.{leaves_all, leaves_copied}
use Rattle.base_numbers.specs.Records.{words_of, record_of}
use Rattle.base_numbers.proofs.Laws.RecordLaws.{record_length}
use Rattle.bundle_salvage.specs.declared.Salvaged.{Salvaged}
use Rattle.std.specs.Prelude.{Result, Ok, Err}
use Rattle.base_rules.specs.declared.refusals.Refusal.{Refusal}
use Rattle.base_rules.specs.Shown.{refused_by}
use Rattle.bundle_salvage.specs.Salvaging.{salvage_into, new_bundle}
use Rattle.bundle_salvage.specs.Shown.{Salvages}
use Rattle.base_rules.proofs.Laws.AnswerLaws.{shown_same}
use Rattle.host_bundle.specs.Salvaging.{salvaged_bytes, salvage_for, SalvagesIn}

module _ (b out told : List ℕ) where
  by_answer : (a : Answer Salvaged) → salvage_for b out told ≡ a → {r : ℕ} {out' told' : List ℕ}
      → Leaves done salvaged_bytes a told told' r → out' ≡ stored (new_bundle b) out a → SalvagesIn b out told r out' told'
  by_answer a e l h = record { tells = rw e l; holds = h ∙ ap (stored (new_bundle b) out) (sym e) }

  pub salvage_short : ltb (length told) 32 ≡ true → SalvagesIn b out told (256 + 21) out told
  salvage_short e = by_answer (refusal 21) (rw e) (leaves_all salvaged_bytes told done refl) refl

  module _ (room : ltb (length told) 32 ≡ false) {s : Result Salvaged Refusal} {out' : List ℕ} (g : Salvages b out s out') where
    pub salvage_number : {n : ℕ} → s ≡ Err (refused_by n) → SalvagesIn b out told (256 + n) out' told
    salvage_number {n} e =
        let a : salvage_into b out ≡ refusal n = shown_same (salvage_into b out) (refusal n) (sym g.answer ∙ e) in
        by_answer (refusal n) (rw (room, a)) (leaves_all salvaged_bytes told done refl) (g.left ∙ ap (stored (new_bundle b) out) a)

    pub salvage_value : {x : Salvaged} → s ≡ Ok x → {told' : List ℕ}
        → told' ≡ copied told 0 (record_of [] (x.kept ∷ x.dropped ∷ x.rule ∷ x.filled ∷ []) []) → SalvagesIn b out told 0 out' told'
    salvage_value {x} e l =
        let a : salvage_into b out ≡ reads x = shown_same (salvage_into b out) (reads x) (sym g.answer ∙ e) in
        let words : List ℕ = x.kept ∷ x.dropped ∷ x.rule ∷ x.filled ∷ [] in
        let fits : length (record_of [] words []) ≤ length told = omega (arith, record_length [] words [], ltb-false (length told) 32 room) in
        by_answer (reads x) (rw (room, a)) (leaves_copied salvaged_bytes told done refl (append-nil (words_of words)) fits l refl)
        (g.left ∙ ap (stored (new_bundle b) out) a)
