-- A line once its characters are taken in.
use Rattle.std.proofs.Common.{◌≡◌, ℕ, ◌%◌, ◌<◌, ◌≤◌, Bool, true, false, List, map, length, take, replicate, sym, refl, ap, ◌∙◌, arith, ne_eqb}
use lib.ListN.{length-map, length-replicate}
use Rattle.std.specs.Prelude.{Result, Ok, Err}
use Rattle.base_rules.specs.declared.refusals.Refusal.{Refusal}
use Rattle.base_rules.specs.Shown.{shown}
use Rattle.base_rules.specs.Lists.{any, total}
use Rattle.base_characters.specs.Characters.{over, odd, byte_of}
use Rattle.base_rules.specs.Answers.{Answer, reads, refusal, refuse}
use Rattle.base_lent.specs.Copying.{copied}
use Rattle.base_characters.specs.declared.Gathering.{Gathering}
use Rattle.base_characters.specs.Gathering.{sound, gathered}
use Rattle.base_characters.proofs.Laws.GatherLaws.{sound_is, low_is, sum_is}
use Rattle.cjt_rules.specs.CjtFrames.{past_fe}
use Rattle.cjt_rules.specs.CjtLines.{read_cjt_frame, read_cjt_line}
use Rattle.cjt_rules.proofs.Laws.FrameCode.{past_count}
use Rattle.cjt_reading.proofs.Laws.FrameLaws.{frame_most}

-- none at all
pub none_is : (s : List ℕ) → length s ≡ 0 → read_cjt_line s ≡ refusal 1
unfolding read_cjt_line
none_is s e = rw e

-- the number of a refusal
number_in : Result (Unit {0}) Refusal → ℕ
number_in (Ok u) = 0
number_in (Err e) = e.0

module _ {A : Type 0} (x : Answer A) where
  chain_refused : (over odd : Bool) {r : Refusal} → shown {A = Unit {0}} (refuse 2 over (refuse 3 odd (reads tt))) ≡ Err r → refuse 2 over (refuse 3 odd x) ≡ refusal r.0
  unfolding number_in
  chain_refused true odd e = ap refusal (ap number_in e)
  chain_refused false true e = ap refusal (ap number_in e)
  chain_refused false false e = cc

  chain_passed : (over odd : Bool) {u : Unit {0}} → shown {A = Unit {0}} (refuse 2 over (refuse 3 odd (reads tt))) ≡ Ok u → refuse 2 over (refuse 3 odd x) ≡ x
  chain_passed true odd e = cc
  chain_passed false true e = cc
  chain_passed false false e = refl

module _ (s : List ℕ) (some : 0 < length s) {o : Result (Unit {0}) Refusal} (e : o ≡ shown (sound s)) where
  -- 2 or 3
  pub taken_refused : {r : Refusal} → o ≡ Err r → read_cjt_line s ≡ refusal r.0
  unfolding read_cjt_line
  taken_refused r = rw (ne_eqb (length s) 0 (omega arith)) (chain_refused (read_cjt_frame (past_fe 5 (map byte_of s))) (any over s) (any odd s) (sym e ∙ r))

  -- or the rules on bytes
  pub taken_passed : {u : Unit {0}} → o ≡ Ok u → read_cjt_line s ≡ read_cjt_frame (past_fe 5 (map byte_of s))
  unfolding read_cjt_line
  taken_passed r = rw (ne_eqb (length s) 0 (omega arith)) (chain_passed (read_cjt_frame (past_fe 5 (map byte_of s))) (any over s) (any odd s) (sym e ∙ r))

  -- more than 64 characters
  pub taken_far : 64 < length s → {u : Unit {0}} → o ≡ Ok u → read_cjt_line s ≡ refusal 80
  unfolding read_cjt_frame
  taken_far h r =
      let b : List ℕ = map byte_of s in
      let many : 59 < length (past_fe 5 b) = omega (arith, past_count 5 b, length-map s byte_of) in
      taken_passed r ∙ rw (frame_most (past_fe 5 b) many)

-- at most 64, with what the code gathered of them
module _ (s low : List ℕ) {n : ℕ} (en : n ≡ length s) (some : n ≡ 0 → ⊥) (few : n ≤ 64) {g : Gathering}
    (e : g ≡ gathered (take (length (replicate {A = ℕ} 64 0)) s))
    (stored : low ≡ copied (replicate 64 0) 0 (map byte_of (take (length (replicate {A = ℕ} 64 0)) s))) where
  room : length s ≤ length (replicate {A = ℕ} 64 0)
  room = omega (arith, en, few, length-replicate {A = ℕ} 64 0)

  begins : 0 < length s
  begins = omega (arith, en, some)

  pub near_refused : {m : Refusal} → g.outcome ≡ Err m → read_cjt_line s ≡ refusal m.0
  near_refused r = taken_refused s begins (sound_is s (replicate 64 0) low room e stored) r

  near_cut : take n low ≡ map byte_of s
  near_cut = ap (λ (k : ℕ). take k low) en ∙ low_is s (replicate 64 0) low room e stored

  pub near_count : n ≡ length (take n low)
  near_count = en ∙ sym (length-map s byte_of) ∙ ap length (sym near_cut)

  pub near_sum : g.sum ≡ total (take n low) % 256
  near_sum = sum_is s (replicate 64 0) low room e stored ∙ ap (λ (l : List ℕ). total l % 256) (sym near_cut)

  pub near_passed : {u : Unit {0}} → g.outcome ≡ Ok u → read_cjt_frame (past_fe 5 (take n low)) ≡ read_cjt_line s
  near_passed r =
      ap (λ (l : List ℕ). read_cjt_frame (past_fe 5 l)) near_cut ∙ sym (taken_passed s begins (sound_is s (replicate 64 0) low room e stored) r)
