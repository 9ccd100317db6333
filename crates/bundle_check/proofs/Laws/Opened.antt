-- What is known of a bundle whose contents are whole.
use Prim.Native.Nat.{ℕ, ◌≤◌}
use mathlib.Core.Bool.{Bool, true, false, cond}
use mathlib.Core.List.{List, [], ◌∷◌}
use mathlib.Core.Path.{◌≡◌, sym}
use borrow.Author.Tests.{ltb-false}
use lib.Dec.{ltb}
use lib.ListN.{length}
use Rattle.base_rules.specs.Answers.{Answer, reads, refusal, refuse, follow}
use Rattle.base_rules.proofs.Laws.AnswerLaws.{reads_same, follow_refuse}
use Rattle.base_rules.proofs.Laws.TestLaws.{refusals, not_refused, all_passed, all_passing}
use Rattle.bundle_rows.specs.Rows.{most_rows, first_offset}
use Rattle.bundle_check.specs.Bundles.{most_bytes, count_of, opened, check_rows, check_of}

-- none of 30 to 33 applies
pub record Opened (b : List ℕ) (n : ℕ) : Type 0 where
  pub count : n ≡ count_of b
  pub fits : length b ≤ most_bytes
  pub counted : 2 ≤ length b
  pub few : count_of b ≤ most_rows
  pub there : first_offset (count_of b) ≤ length b

abbrev tests : List ℕ → List (ℕ × Bool)
tests b =
    (30, ltb most_bytes (length b))
    ∷ ((31, ltb (length b) 2) ∷ ((32, ltb most_rows (count_of b)) ∷ ((33, ltb (length b) (first_offset (count_of b))) ∷ [])))

pub opened_whole : (b : List ℕ) (n : ℕ) → opened b (reads (count_of b)) ≡ reads n → Opened b n
opened_whole b n e =
    let q = all_passed (tests b) (reads (count_of b)) e in
    let p = q.0 in
    record {
      count = sym (reads_same q.1);
      fits = ltb-false _ _ p.0;
      counted = ltb-false _ _ p.1.0;
      few = ltb-false _ _ p.1.1.0;
      there = ltb-false _ _ p.1.1.1.0;
    }

-- whatever is asked next is then answered
pub opened_next : {A : Type 0} (b : List ℕ) (n : ℕ) → opened b (reads (count_of b)) ≡ reads n → (a : Answer A) → opened b a ≡ a
opened_next b n e a = all_passing (tests b) a (all_passed (tests b) (reads (count_of b)) e).0

-- a refusal of the first tests is one whatever is asked next
refusals_same : {A B : Type 0} (rs : List (ℕ × Bool)) (a : A) (next : Answer B) (k : ℕ) → refusals rs (reads a) ≡ refusal k → refusals rs next ≡ refusal k
refusals_same [] a next k e = absurd (not_refused (sym e))
refusals_same (r ∷ rs) a next k e = go r.1 (λ f. refusals_same rs a next k f) e
  where
    go : (t : Bool) → (refusals rs (reads a) ≡ refusal k → refusals rs next ≡ refusal k)
        → cond t (refusal r.0) (refusals rs (reads a)) ≡ refusal k → cond t (refusal r.0) (refusals rs next) ≡ refusal k
    go true f g = cc
    go false f g = f g

pub opened_refused : {A : Type 0} (b : List ℕ) (a : Answer A) (k : ℕ) → opened b (reads (count_of b)) ≡ refusal k → opened b a ≡ refusal k
opened_refused b a k e = refusals_same (tests b) (count_of b) a k e

-- The check opens the bundle, and then asks for its rows.
pub check_follows : (b : List ℕ) → check_of b ≡ follow (opened b (reads (count_of b))) (λ n. check_rows n b)
unfolding check_of
check_follows b =
    let next : ℕ → Answer ℕ = λ n. check_rows n b in
    let last = reads (count_of b) in
    let at33 : Answer ℕ = refuse 33 (ltb (length b) (first_offset (count_of b))) last in
    let at32 = refuse 32 (ltb most_rows (count_of b)) at33 in
    let at31 = refuse 31 (ltb (length b) 2) at32 in
    rw (follow_refuse 30 (ltb most_bytes (length b)) at31 next, follow_refuse 31 (ltb (length b) 2) at32 next, follow_refuse 32 (ltb most_rows (count_of b)) at33 next, follow_refuse 33 (ltb (length b) (first_offset (count_of b))) last next)
