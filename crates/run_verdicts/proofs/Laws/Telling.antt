-- One row more: the verdicts of the rows before it stay, and only the exchange of its own position goes on.
use Prim.Native.Nat.{ℕ, suc}
use mathlib.Core.List.{List, [], ◌∷◌, ◌++◌, append_assoc, append-nil}
use mathlib.Core.Path.{◌≡◌, refl, sym, ap, ◌∙◌}
use lib.ListN.{length}
use Rattle.bundle_check.specs.Records.{Recorded}
use Rattle.bundle_check.specs.Walks.{end_of}
use Rattle.run_verdicts.specs.declared.Verdict.{Verdict}
use Rattle.run_verdicts.specs.Verdicts.{verdict_after, told_to, slot_of, verdicts_from, verdicts_of}

pub end_append : {S A : Type 0} (next : S → A → S) (s : S) (l m : List A) → end_of next s (l ++ m) ≡ end_of next (end_of next s l) m
unfolding end_of
end_append next s [] m = refl
end_append next s (x ∷ l) m = end_append next (next s x) l m

pub slot_next : (position : ℕ) (ks : List Recorded) (k : Recorded) → slot_of position (ks ++ (k ∷ [])) ≡ told_to position (slot_of position ks) k
unfolding end_of
slot_next position ks k = end_append (told_to position) _ ks (k ∷ [])

verdicts_append : (before ks : List Recorded) (k : Recorded)
    → verdicts_from before (ks ++ (k ∷ [])) ≡ verdicts_from before ks ++ (verdict_after (slot_of k.position (before ++ ks)) k ∷ [])
unfolding verdicts_from
verdicts_append before [] k = ap (λ (l : List Recorded). verdict_after (slot_of k.position l) k ∷ []) (sym (append-nil before))
verdicts_append before (j ∷ ks) k =
    ap (λ (l : List Verdict). verdict_after (slot_of j.position before) j ∷ l)
    (verdicts_append (before ++ (j ∷ [])) ks k
    ∙ ap (λ (l : List Recorded). verdicts_from (before ++ (j ∷ [])) ks ++ (verdict_after (slot_of k.position l) k ∷ [])) (append_assoc before (j ∷ []) ks))

pub verdicts_next : (ks : List Recorded) (k : Recorded) → verdicts_of (ks ++ (k ∷ [])) ≡ verdicts_of ks ++ (verdict_after (slot_of k.position ks) k ∷ [])
verdicts_next ks k = verdicts_append [] ks k

-- every row has a verdict
pub length_verdicts : (before ks : List Recorded) → length (verdicts_from before ks) ≡ length ks
unfolding verdicts_from
length_verdicts before [] = refl
length_verdicts before (k ∷ ks) = ap suc (length_verdicts (before ++ (k ∷ [])) ks)
