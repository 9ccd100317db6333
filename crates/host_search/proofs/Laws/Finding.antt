-- Laws of `specs/Finding`: the ways out of the calls.
use Prim.Native.Nat.{ℕ, ◌+◌, ◌≤◌}
use mathlib.Core.Bool.{Bool, true, false}
use mathlib.Core.List.{List, [], ◌∷◌, append-nil}
use mathlib.Core.Path.{◌≡◌, refl, sym, ap, ◌∙◌}
use native.Mathlib.Omega.{arith}
use borrow.Author.Tests.{ltb-false}
use lib.Dec.{ltb}
use lib.ListN.{length}
use Rattle.std.specs.Prelude.{Result, Ok, Err}
use Rattle.base_rules.specs.Answers.{reads}
use Rattle.base_rules.specs.Shown.{shown}
use Rattle.base_rules.specs.declared.refusals.Refusal.{Refusal}
use Rattle.base_rules.proofs.Laws.AnswerLaws.{shown_ok, shown_err}
use Rattle.mbus_search.specs.declared.Spot.{Spot}
use Rattle.mbus_search.specs.Searching.{spot_at, find_in}
use Rattle.base_numbers.specs.Records.{words_of, record_of}
use Rattle.base_numbers.proofs.Laws.RecordLaws.{record_length}
use Rattle.base_lent.specs.Copying.{copied}
use Rattle.base_lent.specs.Lent.{done, placed, Leaves}
use Rattle.base_lent.proofs.Laws.LentLaws.{none_copied, leaves_all, leaves_copied}
use Rattle.host_search.specs.Finding.{spot_bytes, Finds}

-- the record of a place has 16 bytes
spot_record : (p n : ℕ) → record_of [] (p ∷ n ∷ []) [] ≡ spot_bytes (spot_at p n)
spot_record p n = append-nil (words_of (p ∷ n ∷ []))

pub spot_copied : (out : List ℕ) (p n : ℕ) {after : List ℕ} → after ≡ copied out 0 (record_of [] (p ∷ n ∷ []) []) → after ≡ copied out 0 (spot_bytes (spot_at p n))
spot_copied out p n l = l ∙ ap (copied out 0) (spot_record p n)

spot_length : (p : Spot) → length (spot_bytes p) ≡ 16
spot_length p = ap length (sym (spot_record p.place p.length)) ∙ record_length [] (p.place ∷ p.length ∷ []) []

-- what is written of an answer, where it was put into so many bytes or there were fewer
module _ {A : Type 0} (number : A → ℕ) (written : A → List ℕ) (size : ℕ) (out : List ℕ) (x : A) (sized : length (written x) ≡ size)
    {short : Bool} {after : List ℕ} (s : short ≡ ltb (length out) size) (l : after ≡ copied out 0 (written x)) where
  pub record_short : short ≡ true → Leaves number written (placed size out (reads x)) out after (256 + 21)
  record_short t =
      let few : ltb (length out) size ≡ true = sym s ∙ t in
      let kept : after ≡ out = l ∙ none_copied out (written x) (rw sized few) in
      rw (kept, few) (leaves_all written out number refl)

  pub record_kept : short ≡ false → {r : ℕ} → r ≡ number x → Leaves number written (placed size out (reads x)) out after r
  record_kept t n =
      let many : ltb (length out) size ≡ false = sym s ∙ t in
      let room : length (written x) ≤ length out = omega (arith, sized, ltb-false (length out) size many) in
      rw many (leaves_copied written out number refl refl room l n)

-- place and length of an answer
module _ {A : Type 0} (number : A → ℕ) (spot : A → Spot) (out : List ℕ) (x : A) {short : Bool} {after : List ℕ} (s : short ≡ ltb (length out) 16)
    (l : after ≡ copied out 0 (spot_bytes (spot x))) where
  pub spot_short : short ≡ true → Leaves number (λ y. spot_bytes (spot y)) (placed 16 out (reads x)) out after (256 + 21)
  spot_short t = record_short number (λ y. spot_bytes (spot y)) 16 out x (spot_length (spot x)) s l t

  pub spot_kept : short ≡ false → {r : ℕ} → r ≡ number x → Leaves number (λ y. spot_bytes (spot y)) (placed 16 out (reads x)) out after r
  spot_kept t n = record_kept number (λ y. spot_bytes (spot y)) 16 out x (spot_length (spot x)) s l t n

-- ---- one capture

module _ (capture out : List ℕ) {f : Result Spot Refusal} (e : f ≡ shown (find_in capture)) where
  pub none_found : {r : Refusal} → f ≡ Err r → Finds capture out out (256 + r.0)
  none_found {r} t = rw (shown_err (find_in capture) r.0 (sym e ∙ t)) (leaves_all spot_bytes out done refl)

  module _ {p : Spot} (t : f ≡ Ok p) {short : Bool} {after : List ℕ} (s : short ≡ ltb (length out) 16) (l : after ≡ copied out 0 (spot_bytes p)) where
    pub found_short : short ≡ true → Finds capture out after (256 + 21)
    found_short h = rw (shown_ok (find_in capture) p (sym e ∙ t)) (spot_short done (λ x. x) out p s l h)

    pub found_whole : short ≡ false → Finds capture out after 0
    found_whole h = rw (shown_ok (find_in capture) p (sym e ∙ t)) (spot_kept done (λ x. x) out p s l h refl)
