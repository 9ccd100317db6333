-- 01's frame as a rule on bytes: what one byte changed and bytes added do to it.
use Prim.Native.Nat.{ℕ, ◌+◌, ◌-◌, ◌<◌}
use native.Mathlib.Omega.{arith}
use mathlib.Core.Bool.{Bool, true, false, cond, true≢false}
use mathlib.Core.List.{List, [], ◌∷◌, ◌++◌}
use mathlib.Core.Path.{◌≡◌, sym, ◌∙◌}
use lib.Dec.{eqb, ltb}
use lib.ListN.{length, length-append, get_or-append}
use borrow.Author.Tests.{eqb-true, ne_eqb, not-false}
use Rattle.base_rules.specs.Lists.{at}
use Rattle.mbus_rules.specs.Lines.{is_ack, is_short, is_long, wrong_start, wrong_count, wrong_lengths, wrong_end, wrong_sum}
use Rattle.base_characters.proofs.Laws.Closing.{Closed, closed_byte, none_added}
use Rattle.base_rules.proofs.Laws.Tests.{by_test, neither, not_different}

-- The rule on the bytes of a line: none of 4 to 8 refuses.
pub record Framed (b : List ℕ) : Type 0 where
  pub start : wrong_start b ≡ false
  pub count : wrong_count b ≡ false
  pub lengths : wrong_lengths b ≡ false
  pub end : wrong_end b ≡ false
  pub sum : wrong_sum b ≡ false

-- ---- the rule by form

pub record Short (b : List ℕ) : Type 0 where
  pub count : length b ≡ 5
  pub closed : Closed 1 b

pub record Long (b : List ℕ) : Type 0 where
  pub start : at b 0 ≡ 0x68
  pub count : length b ≡ at b 1 + 6
  pub twice : at b 1 ≡ at b 2
  pub again : at b 3 ≡ 0x68
  pub closed : Closed 4 b

-- what is left of the rule once the first byte is known: whether it is E5, whether it is 10
abbrev pub Form : Bool → Bool → List ℕ → Type 0
Form true is_short b = length b ≡ 1
Form false true b = Short b
Form false false b = Long b

form_ack : (b : List ℕ) → is_ack b ≡ true → Framed b → length b ≡ 1
form_ack b e f = not_different _ _ (rw e at f.count)

form_short : (b : List ℕ) → is_ack b ≡ false → is_short b ≡ true → Framed b → Short b
form_short b e s f =
    let first : at b 0 ≡ 0x10 = eqb-true _ _ s in
    let long : is_long b ≡ false = rw first in
    let five : length b ≡ 5 = not_different _ _ (rw (e, s) at f.count) in
    let two : length b - 3 ≡ 2 = omega arith in
    record {
      count = five;
      closed = record { end = not_different _ _ (rw e at f.end); sum = rw two (not_different _ _ (rw (e, long) at f.sum)) };
    }

form_long : (b : List ℕ) → is_ack b ≡ false → is_short b ≡ false → Framed b → Long b
form_long b e s f =
    let long : is_long b ≡ true = not-false (is_long b) (rw (e, s) at f.start) in
    let lengths = neither _ _ (rw long at f.lengths) in
    record {
      start = eqb-true _ _ long;
      count = not_different _ _ (neither (ltb (length b) 6) _ (rw (e, s) at f.count)).1;
      twice = not_different _ _ lengths.0;
      again = not_different _ _ lengths.1;
      closed = record { end = not_different _ _ (rw e at f.end); sum = not_different _ _ (rw (e, long) at f.sum) };
    }

pub form : (b : List ℕ) → Framed b → Form (is_ack b) (is_short b) b
form b f =
    by_test (is_ack b) (λ e. rw e (form_ack b e f))
    (λ e. by_test (is_short b) (λ s. rw (e, s) (form_short b e s f)) (λ s. rw (e, s) (form_long b e s f)))

-- ---- one byte changed

-- The count of bytes settles the first.
start_of : ℕ → ℕ
start_of n = cond (eqb n 1) 0xE5 (cond (eqb n 5) 0x10 0x68)

start_long : (b : List ℕ) → Long b → at b 0 ≡ start_of (length b)
unfolding start_of
start_long b long =
    let not-one : eqb (length b) 1 ≡ false = ne_eqb (length b) 1 (omega arith) in
    let not_five : eqb (length b) 5 ≡ false = ne_eqb (length b) 5 (omega arith) in
    rw (not-one, not_five) long.start

start_at : (b : List ℕ) → Framed b → at b 0 ≡ start_of (length b)
unfolding start_of
start_at b f =
    by_test (is_ack b) (λ e. rw (form_ack b e f) (eqb-true _ _ e))
    (λ e. by_test (is_short b) (λ s. rw (form_short b e s f).count (eqb-true _ _ s)) (λ s. start_long b (form_long b e s f)))

-- A byte after the first is settled by the others.
later_byte : (is_ack is_short : Bool) (f : ℕ) (p q : List ℕ) (x y : ℕ) → x < 256 → y < 256
    → Form is_ack is_short (f ∷ (p ++ x ∷ q)) → Form is_ack is_short (f ∷ (p ++ y ∷ q)) → x ≡ y
later_byte true is_short f p q x y hx hy u v = absurd (omega (arith, length-append p (x ∷ q)))
later_byte false true f p q x y hx hy u v = closed_byte 1 (f ∷ p) q x y hx hy (omega arith) u.closed v.closed
later_byte false false f [] q x y hx hy u v = omega arith
later_byte false false f (g ∷ []) q x y hx hy u v = sym u.twice ∙ v.twice
later_byte false false f (g ∷ h ∷ []) q x y hx hy u v = u.again ∙ sym v.again
later_byte false false f (g ∷ h ∷ k ∷ p) q x y hx hy u v = closed_byte 4 (f ∷ g ∷ h ∷ k ∷ p) q x y hx hy (omega arith) u.closed v.closed

pub framed_byte : (p q : List ℕ) (x y : ℕ) → x < 256 → y < 256 → Framed (p ++ x ∷ q) → Framed (p ++ y ∷ q) → x ≡ y
framed_byte [] q x y hx hy u v = start_at (x ∷ q) u ∙ sym (start_at (y ∷ q) v)
framed_byte (f ∷ p) q x y hx hy u v = later_byte (eqb f 0xE5) (eqb f 0x10) f p q x y hx hy (form _ u) (form _ v)

-- ---- bytes added

same_count : (is_ack is_short : Bool) (b c : List ℕ) → Form is_ack is_short b → Form is_ack is_short (b ++ c) → length (b ++ c) ≡ length b
same_count true is_short b c u v = v ∙ sym u
same_count false true b c u v = v.count ∙ sym u.count
same_count false false b c u v =
    let same : at (b ++ c) 1 ≡ at b 1 = get_or-append b c 0 1 (omega arith) in
    omega arith

pub framed_longer : (b c : List ℕ) → Framed b → Framed (b ++ c) → c ≡ []
framed_longer [] c u v = absurd (true≢false u.start)
framed_longer (f ∷ r) c u v = none_added (f ∷ r) c (same_count (eqb f 0xE5) (eqb f 0x10) (f ∷ r) c (form _ u) (form _ v))
