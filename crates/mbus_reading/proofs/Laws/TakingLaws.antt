-- What is known of a line once its characters are taken in.
use Prim.Native.Nat.{ℕ, ◌+◌, ◌≤◌, ◌<◌}
use mathlib.Core.Bool.{Bool, true, false, cond, not, ◌||◌, or-true}
use mathlib.Core.List.{List, [], ◌∷◌, map}
use mathlib.Core.Path.{◌≡◌, refl, sym, ap, subst, ◌∙◌}
use native.Mathlib.Omega.{arith}
use borrow.Author.Tests.{ne_eqb}
use lib.Dec.{ltb, eqb}
use lib.ListN.{length, take, length-map, length-take}
use Rattle.std.specs.Prelude.{Result, Ok, Err}
use Rattle.base_rules.specs.declared.refusals.Refusal.{Refusal}
use Rattle.base_rules.specs.Shown.{shown}
use Rattle.mbus_rules.specs.declared.Telegram.{Telegram}
use Rattle.base_rules.specs.Lists.{at, any}
use Rattle.base_characters.proofs.Laws.CharacterLaws.{at_bytes}
use Rattle.base_rules.proofs.Laws.Tests.{by_test}
use Rattle.base_characters.specs.Characters.{over, odd, byte_of}
use Rattle.base_rules.specs.Answers.{Answer, reads, refusal, refuse}
use Rattle.mbus_rules.specs.Lines.{is_ack, is_short, wrong_start, wrong_count, read_body, read_frame, read_line}
use Rattle.base_lent.specs.Copying.{copied}
use Rattle.base_characters.specs.declared.Gathering.{Gathering}
use Rattle.base_characters.specs.Gathering.{sound, gathered}
use Rattle.base_characters.proofs.Laws.GatherLaws.{sound_is, low_is, sum_is}
use Rattle.mbus_shape.specs.Shapes.{frame_by}
use Rattle.mbus_shape.proofs.Laws.WholeLaws.{frame_whole}
use Rattle.mbus_reading.specs.Taking.{TakenFew, TakenBytes, far_by}

-- none at all
pub none_is : (s : List ℕ) → length s ≡ 0 → read_line s ≡ refusal 1
unfolding read_line
none_is s e = rw e

-- ---- more than 261 characters

far_chain : {A : Type 0} (over odd : Bool) (first : ℕ) (x : Answer A) → x ≡ refusal (cond (wrong_start (first ∷ [])) 4 5)
    → refuse 2 over (refuse 3 odd x) ≡ refusal (far_by (shown (refuse 2 over (refuse 3 odd (reads tt)))) first).0
far_chain true odd first x e = refl
far_chain false true first x e = refl
far_chain false false first x e = e

module _ (s : List ℕ) (far : 261 < length s) where
  far_count : wrong_count (map byte_of s) ≡ true
  far_count = go (is_ack (map byte_of s)) (is_short (map byte_of s))
    where
      many : 261 < length (map byte_of s)
      many = rw (length-map s byte_of) far

      byte : at (map byte_of s) 1 < 256
      byte = rw (at_bytes s 1) (omega arith)

      go : (t u : Bool)
          → cond t (not (eqb (length (map byte_of s)) 1))
          (cond u (not (eqb (length (map byte_of s)) 5))
          (ltb (length (map byte_of s)) 6 || not (eqb (length (map byte_of s)) (at (map byte_of s) 1 + 6)))) ≡ true
      go true u = rw (ne_eqb (length (map byte_of s)) 1 (omega (arith, many)))
      go false true = rw (ne_eqb (length (map byte_of s)) 5 (omega (arith, many)))
      go false false =
          rw (ne_eqb (length (map byte_of s)) (at (map byte_of s) 1 + 6) (omega (arith, many, byte))) (or-true (ltb (length (map byte_of s)) 6))

  far_frame : {first : ℕ} → first ≡ at (map byte_of s) 0 → read_frame read_body (map byte_of s) ≡ refusal (cond (wrong_start (first ∷ [])) 4 5)
  far_frame {first} e =
      by_test (wrong_start (first ∷ [])) (λ w. rw (ap (λ (x : ℕ). wrong_start (x ∷ [])) (sym e) ∙ w, w))
      (λ w. rw (ap (λ (x : ℕ). wrong_start (x ∷ [])) (sym e) ∙ w, far_count, w))

  pub far_line : {first : ℕ} {o : Result (Unit {0}) Refusal} → o ≡ shown (sound s) → first ≡ at (map byte_of s) 0 → read_line s ≡ refusal (far_by o first).0
  unfolding read_line
  far_line {first} e f =
      rw (e, ne_eqb (length s) 0 (omega arith)) (far_chain (any over s) (any odd s) first (read_frame read_body (map byte_of s)) (far_frame f))

-- ---- at most 261

-- what is sound is left to the rules on bytes
pub sound_line : (s : List ℕ) → 0 < length s → any over s ≡ false → any odd s ≡ false → read_line s ≡ read_frame read_body (map byte_of s)
unfolding read_line
sound_line s some in_range even = rw (ne_eqb (length s) 0 (omega arith), in_range, even)

taken_chain : (s low : List ℕ) (over odd : Bool) (x : Answer Telegram)
    → read_line s ≡ refuse 2 over (refuse 3 odd x)
    → (x ≡ read_frame read_body (map byte_of s)) × (take (length s) low ≡ map byte_of s)
    → TakenFew s low (shown (refuse 2 over (refuse 3 odd (reads tt))))
taken_chain s low true odd x e h = e
taken_chain s low false true x e h = e
taken_chain s low false false x e h = (e ∙ h.0, h.1)

-- by the answer that the code found
pub few_as : (s low : List ℕ) {o p : Result (Unit {0}) Refusal} → o ≡ p → TakenFew s low o → TakenFew s low p
few_as s low e t = subst (λ (q : Result (Unit {0}) Refusal). TakenFew s low q) e t

-- what the code gathered
module _ (s places low : List ℕ) {g : Gathering} (room : length s ≤ length places) (e : g ≡ gathered (take (length places) s))
    (stored : low ≡ copied places 0 (map byte_of (take (length places) s))) where
  pub taken_some : 0 < length s → TakenFew s low g.outcome
  unfolding read_line
  taken_some some =
      subst (λ (p : Result (Unit {0}) Refusal). TakenFew s low p) (sym (sound_is s places low room e stored))
      (taken_chain s low (any over s) (any odd s) (read_frame read_body (map byte_of s)) (rw (ne_eqb (length s) 0 (omega arith)))
      (refl, low_is s places low room e stored))

  -- refused, or with the sum
  pub taken_err : 0 < length s → {r : Refusal} → g.outcome ≡ Err r → TakenBytes s low (Err r)
  taken_err some is = few_as s low is (taken_some some)

  pub taken_ok : 0 < length s → {u : Unit {0}} → g.outcome ≡ Ok u → TakenBytes s low (Ok g.sum)
  taken_ok some is =
      let t = few_as s low is (taken_some some) in
      (t.0, t.1, sum_is s places low room e stored)

-- by the answer that the code found
pub taken_as : (s low : List ℕ) {o p : Result ℕ Refusal} → o ≡ p → TakenBytes s low o → TakenBytes s low p
taken_as s low e t = subst (λ (q : Result ℕ Refusal). TakenBytes s low q) e t

-- ---- what is left for the rules on bytes

-- what is cut out is as long as told, and lies within what was stored
module _ (s low : List ℕ) {n : ℕ} (en : n ≡ length s) (cut : take n low ≡ map byte_of s) where
  pub cut_count : n ≡ length (take n low)
  cut_count = en ∙ sym (length-map s byte_of) ∙ ap length (sym cut)

  pub cut_room : n ≤ length low
  cut_room = omega (arith, cut_count, length-take n low)

-- They are asked of the bytes that were stored, by their sum.
pub taken_frame : (s low : List ℕ) (sum : ℕ) {n : ℕ} → n ≡ length s → TakenBytes s low (Ok sum) → frame_by sum read_body (take n low) ≡ read_line s
taken_frame s low sum en t =
    ap (λ (k : ℕ). frame_by sum read_body (take k low)) en ∙ ap (frame_by sum read_body) t.1 ∙ frame_whole read_body s t.2 ∙ sym t.0
