-- Laws of `specs/SearchLaws`.
use Rattle.std.proofs.Common.{◌≡◌, ℕ, zero, suc, ◌+◌, ◌-◌, ◌<◌, ◌≤◌, true, false, cond, eqb, List, map, length, take, sym, refl, ap, ◌∙◌, subst, le_refl, arith, length-take-le, get_or-take, lt-ltb, eqb-true, le-leb}
use mathlib.Core.Bool.{false≢true, or-true}
use native.Mathlib.Decide.{ℕ_discrete}
use borrow.Author.Tests.{eqb-false}
use lib.ListN.{length-map}
use Rattle.mbus_rules.specs.declared.Telegram.{Telegram}
use Rattle.base_rules.specs.Lists.{at}
use Rattle.base_rules.proofs.Laws.ListLaws.{map_take}
use Rattle.base_characters.specs.Characters.{byte_of}
use Rattle.base_rules.specs.Answers.{Answer, reads, refusal}
use Rattle.base_rules.proofs.Laws.Tests.{by_test, not_different}
use Rattle.mbus_rules.specs.Lines.{is_ack, read_line}
use Rattle.base_characters.proofs.Laws.Codes.{Sound}
use Rattle.mbus_rules.proofs.Laws.Frames.{Framed, form}
use Rattle.mbus_rules.proofs.Laws.LineCode.{line_code}
use Rattle.mbus_shape.specs.First.{left_by}
use Rattle.mbus_shape.proofs.Laws.FirstLaws.{left_line}
use Rattle.mbus_search.specs.Searching.{accepts, length_from, length_here}
use Rattle.mbus_search.specs.Ending.{ends_in}

-- the one length that a line which begins here can have by its first bytes
abbrev pub left_at : List ℕ → ℕ
left_at s = left_by (map byte_of s)

-- what is accepted keeps the rules on characters and on bytes
pub accepted_sound : (s : List ℕ) → accepts (read_line s) ≡ true → Sound Framed s
accepted_sound s = go (read_line s) refl
  where
    go : (a : Answer Telegram) → read_line s ≡ a → accepts a ≡ true → Sound Framed s
    go (refusal n) e t = absurd (false≢true t)
    go (reads x) e t = line_code.sound s (x, e)

-- the end of a line is the byte that its length tells
framed_ends : (b : List ℕ) (n : ℕ) → n ≤ length b → 0 < n → Framed (take n b) → ends_in n b ≡ true
framed_ends b n h some f = rw (le-leb n (length b) h) (by_test (is_ack (take n b))
    (λ a. let one : length (take n b) ≡ 1 = rw a at (form (take n b) f) in rw (lt-ltb n 2 (omega (arith, length-take-le n b h))))
    (λ a. let last : at (take n b) (length (take n b) - 1) ≡ 0x16 = not_different _ _ (rw a at f.end) in
    let place : length (take n b) - 1 ≡ n - 1 = omega (arith, length-take-le n b h) in
    let end : at b (n - 1) ≡ 0x16 = sym (get_or-take n b (n - 1) 0 (omega arith)) ∙ ap (at (take n b)) (sym place) ∙ last in
    rw (end, or-true)))

-- the bytes of an accepted line that begins here
accepted_bytes : (s : List ℕ) (n : ℕ) → accepts (read_line (take n s)) ≡ true → Framed (take n (map byte_of s))
accepted_bytes s n e = subst Framed (map_take byte_of n s) (accepted_sound (take n s) e).bytes

-- its length is the one that its first bytes leave
pub only_length : (s : List ℕ) (n : ℕ) → n ≤ length s → accepts (read_line (take n s)) ≡ true → left_at s ≡ n
only_length s n h e = (left_line (map byte_of s) n (omega (arith, length-map s byte_of)) (accepted_bytes s n e)).1

-- and it ends in 16
pub accepted_ends : (s : List ℕ) (n : ℕ) → n ≤ length s → accepts (read_line (take n s)) ≡ true → ends_in n (map byte_of s) ≡ true
accepted_ends s n h e =
    let inside : n ≤ length (map byte_of s) = omega (arith, length-map s byte_of) in
    let f = accepted_bytes s n e in
    framed_ends (map byte_of s) n inside (left_line (map byte_of s) n inside f).0 f

-- ---- the lengths, one after the other

from_none : (k n : ℕ) (s : List ℕ) → ((m : ℕ) → n ≤ m → m < n + k → accepts (read_line (take m s)) ≡ false) → length_from k n s ≡ refusal 18
unfolding length_from
from_none zero n s none = refl
from_none (suc k) n s none = rw (none n (le_refl n) (omega arith)) (from_none k (n + 1) s (λ m l u. none m (omega arith) (omega arith)))

from_hit : (k n m : ℕ) (s : List ℕ) → n ≤ m → m < n + k → accepts (read_line (take m s)) ≡ true
    → ((l : ℕ) → n ≤ l → l < m → accepts (read_line (take l s)) ≡ false)
    → length_from k n s ≡ reads m
unfolding length_from
from_hit zero n m s a b hit none = absurd (omega arith)
from_hit (suc k) n m s a b hit none = go (ℕ_discrete n m) (λ l. from_hit k (n + 1) m s l (omega arith) hit (λ x p q. none x (omega arith) q))
  where
    go : Dec (n ≡ m) → (n + 1 ≤ m → length_from k (n + 1) s ≡ reads m) → cond (accepts (read_line (take n s))) (reads n) (length_from k (n + 1) s) ≡ reads m
    go (yes e) rest = ap (λ (x : ℕ). cond (accepts (read_line (take x s))) (reads x) (length_from k (n + 1) s)) e ∙ rw hit
    go (no e) rest = rw (none n (le_refl n) (omega arith)) (rest (omega arith))

module _ (s : List ℕ) where
  not_other : (m : ℕ) → m ≤ length s → (left_at s ≡ m → ⊥) → accepts (read_line (take m s)) ≡ false
  not_other m h n = by_test (accepts (read_line (take m s))) (λ e. absurd (n (only_length s m h e))) (λ e. e)

  -- the one length that can be is accepted: it is the length here
  pub here_hit : 0 < left_at s → left_at s ≤ length s → accepts (read_line (take (left_at s) s)) ≡ true → length_here s ≡ reads (left_at s)
  here_hit p h e = from_hit (length s) 1 (left_at s) s p (omega arith) e (λ l a b. not_other l (omega arith) (λ q. omega arith))

  -- it is not accepted, or there is none: no line begins here
  pub here_none : (left_at s ≤ length s → 0 < left_at s → accepts (read_line (take (left_at s) s)) ≡ false) → length_here s ≡ refusal 18
  here_none none = from_none (length s) 1 s (λ m a b. by_test (eqb (left_at s) m)
      (λ e. let q : left_at s ≡ m = eqb-true (left_at s) m e in rw (← q) (none (omega arith) (omega arith)))
      (λ e. not_other m (omega arith) (eqb-false (left_at s) m e)))
