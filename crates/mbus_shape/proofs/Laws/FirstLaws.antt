-- Laws of `specs/First`: how many bytes a line has by a beginning of them and by all.
use Rattle.std.proofs.Common.{◌≡◌, ℕ, ◌+◌, ◌<◌, ◌≤◌, Bool, true, false, cond, not, ◌&&◌, ◌||◌, eqb, ltb, List, [], ◌∷◌, map, length, take, sym, ◌∙◌, ap₂, true≢false, arith, length-take-le, get_or-take, ltb-false, ltb-true, lt-ltb, eq-eqb, eqb-true}
use mathlib.Core.Bool.{or-true, and-false, and-eq-true_iff}
use lib.ListN.{get_or-eq_default}
use Rattle.base_rules.specs.Lists.{at}
use Rattle.base_characters.specs.Characters.{byte_of}
use Rattle.mbus_rules.specs.Lines.{is_ack, is_short, is_long, wrong_start}
use Rattle.mbus_rules.proofs.Laws.Frames.{Framed, Short, Long, form}
use Rattle.base_characters.proofs.Laws.CharacterLaws.{at_bytes}
use Rattle.base_rules.proofs.Laws.Tests.{by_test, neither}
use Rattle.mbus_shape.specs.First.{line_count, wrong_lengths_in, left_by}

-- 4 or 6 refuses every line with these first bytes
abbrev refused : List ℕ → Bool
refused b = wrong_start b || wrong_lengths_in b

left_none : (b : List ℕ) → refused b ≡ true → left_by b ≡ 0
left_none b e = rw e

left_some : (b : List ℕ) → refused b ≡ false → left_by b ≡ line_count b
left_some b e = rw e

count_some : (b : List ℕ) → 0 < line_count b
count_some b = go (is_ack b) (is_short b)
  where
    go : (ack short : Bool) → 0 < cond ack 1 (cond short 5 (at b 1 + 6))
    go true short = omega arith
    go false true = omega arith
    go false false = omega arith

-- what a count that is left tells
record Tells (b : List ℕ) : Type 0 where
  starts : wrong_start b ≡ false
  lengths : wrong_lengths_in b ≡ false
  count : left_by b ≡ line_count b

tells : (b : List ℕ) → 0 < left_by b → Tells b
tells b h = by_test (refused b) (λ t. absurd (omega (arith, left_none b t)))
    (λ t. let both = neither (wrong_start b) (wrong_lengths_in b) t in record { starts = both.0; lengths = both.1; count = left_some b t })

-- after 68 the second byte and 6
pub long_six : (b : List ℕ) → 0 < left_by b → is_long b ≡ true → 6 ≤ left_by b
long_six b h l = let e : at b 0 ≡ 0x68 = eqb-true _ _ l in let c : left_by b ≡ at b 1 + 6 = (tells b h).count ∙ rw e in omega arith

-- where a fourth byte is there, so is a third
pub third_there : {n : ℕ} → 4 ≤ n → ltb 2 n ≡ true
third_there {n} h = lt-ltb 2 n (omega arith)

-- no line has more than 261
pub left_most : (s : List ℕ) → left_by (map byte_of s) ≤ 261
left_most s = let b = map byte_of s in most (refused b) (is_ack b) (is_short b) (at b 1) (rw (at_bytes s 1) (omega arith))
  where
    most : (none ack short : Bool) (l : ℕ) → l < 256 → cond none 0 (cond ack 1 (cond short 5 (l + 6))) ≤ 261
    most true ack short l h = omega arith
    most false true short l h = omega arith
    most false false true l h = omega arith
    most false false false l h = omega arith

-- all bytes of a line that 4 to 8 accept leave as many as there are
pub left_framed : (b : List ℕ) → Framed b → left_by b ≡ length b
left_framed b f = by_test (is_ack b) (λ a. ack (eqb-true (at b 0) 0xE5 a) (rw a at (form b f)))
    (λ a. by_test (is_short b) (λ t. short (eqb-true (at b 0) 0x10 t) (rw (a, t) at (form b f))) (λ t. long (rw (a, t) at (form b f))))
  where
    ack : at b 0 ≡ 0xE5 → length b ≡ 1 → left_by b ≡ length b
    ack first one = rw first (sym one)

    short : at b 0 ≡ 0x10 → Short b → left_by b ≡ length b
    short first s = rw first (sym s.count)

    long : Long b → left_by b ≡ length b
    long g = rw (g.start, eq-eqb (at b 1) (at b 2) g.twice, g.again, and-false, and-false) (sym g.count)

pub framed_some : (b : List ℕ) → Framed b → 0 < left_by b
framed_some [] f = absurd (true≢false f.start)
framed_some (x ∷ b) f = omega (arith, left_framed (x ∷ b) f)

-- ---- a beginning and the whole

module _ (b : List ℕ) (k : ℕ) (some : 1 ≤ k) (inside : k ≤ length b) where
  abbrev few : List ℕ
  few = take k b

  at_first : (i : ℕ) → i < k → at few i ≡ at b i
  at_first i l = get_or-take k b i 0 l

  few_length : length few ≡ k
  few_length = length-take-le k b inside

  start : at few 0 ≡ at b 0
  start = at_first 0 some

  pub same_long : is_long few ≡ is_long b
  same_long = rw start

  -- the second byte is there, or is not asked for: the count is the same
  same_count : wrong_start few ≡ false → (is_long few ≡ true → 2 ≤ k) → line_count few ≡ line_count b
  same_count s l = by_test (is_long few)
      (λ t. rw (start, at_first 1 (omega (arith, l t))))
      (λ t. by_test (is_ack few) (λ a. rw (← start, a)) (λ a. by_test (is_short few) (λ h. rw (← start, a, h)) (λ h. absurd (true≢false (rw (a, h, t) at s)))))

  -- a second byte that is not there is read as 0
  count_grows : line_count few ≤ line_count b
  count_grows = by_test (is_long few) (λ t. long (eqb-true _ _ t)) (λ t. by_test (is_ack few) (λ a. rw (← start, a) (omega arith))
      (λ a. by_test (is_short few) (λ h. rw (← start, a, h) (omega arith)) (λ h. rw (← start, a, h) (omega (arith, second)))))
    where
      second : at few 1 ≤ at b 1
      second = by_test (ltb 1 k) (λ t. let l = ltb-true 1 k t in omega (arith, at_first 1 l))
          (λ t. let short : length few ≤ 1 = omega (arith, few_length, ltb-false 1 k t) in omega (arith, get_or-eq_default few 0 short))

      long : at few 0 ≡ 0x68 → line_count few ≤ line_count b
      long e = let f : at b 0 ≡ 0x68 = sym start ∙ e in rw (e, f) (omega (arith, second))

  -- ---- what is refused by the bytes that are there stays refused

  abbrev third : List ℕ → Bool
  third b = ltb 2 (length b) && not (eqb (at b 1) (at b 2))

  abbrev fourth : List ℕ → Bool
  fourth b = ltb 3 (length b) && not (eqb (at b 3) 0x68)

  third_stays : third few ≡ true → third b ≡ true
  third_stays e =
      let both = (and-eq-true_iff (ltb 2 (length few)) (not (eqb (at few 1) (at few 2)))).0 e in
      let there : 2 < k = omega (arith, few_length, ltb-true 2 (length few) both.0) in
      rw (lt-ltb 2 (length b) (omega arith), ← at_first 1 (omega arith), ← at_first 2 there) both.1

  fourth_stays : fourth few ≡ true → fourth b ≡ true
  fourth_stays e =
      let both = (and-eq-true_iff (ltb 3 (length few)) (not (eqb (at few 3) 0x68))).0 e in
      let there : 3 < k = omega (arith, few_length, ltb-true 3 (length few) both.0) in
      rw (lt-ltb 3 (length b) (omega arith), ← at_first 3 there) both.1

  refused_stays : refused few ≡ true → refused b ≡ true
  refused_stays e = by_test (wrong_start few) (λ s. rw (← start, s))
      (λ s. by_test (is_long few) (λ l. long l (rw (s, l) at e)) (λ l. absurd (true≢false (sym (rw (s, l) at e)))))
    where
      long : is_long few ≡ true → (third few || fourth few) ≡ true → refused b ≡ true
      long l t =
          let f : at b 0 ≡ 0x68 = sym start ∙ eqb-true _ _ l in
          rw f (by_test (third few) (λ u. rw (third_stays u)) (λ u. rw (fourth_stays (rw u at t), or-true)))

  -- four bytes settle it
  settled : 4 ≤ k → wrong_lengths_in few ≡ wrong_lengths_in b
  settled h =
      let in-few : 4 ≤ length few = omega (arith, few_length) in
      let in_all : 4 ≤ length b = omega arith in
      rw (
        third_there in-few,
        lt-ltb 3 (length few) in-few,
        third_there in_all,
        lt-ltb 3 (length b) in_all,
        start,
        at_first 1 (omega arith),
        at_first 2 (omega arith),
        at_first 3 (omega arith),
      )

  -- ---- what more bytes leave

  -- a beginning leaves a count where more bytes do
  pub left_before : 0 < left_by b → 0 < left_by few
  left_before h = by_test (refused few) (λ t. absurd (omega (arith, left_none b (refused_stays t))))
      (λ t. omega (arith, left_some few t, count_some few))

  pub left_grows : 0 < left_by b → left_by few ≤ left_by b
  left_grows h = omega (arith, (tells b h).count, (tells few (left_before h)).count, count_grows)

  -- with the second byte, or without a need of it, the count stays while one is left
  pub left_same : 0 < left_by b → (is_long few ≡ true → 2 ≤ k) → left_by few ≡ left_by b
  left_same h l =
      let f = tells few (left_before h) in
      f.count ∙ same_count f.starts l ∙ sym (tells b h).count

  -- and it stays whatever follows as many
  pub left_past : 0 < left_by few → left_by few ≤ k → left_by b ≡ left_by few
  left_past h past =
      let f = tells few h in
      let six : is_long few ≡ true → 6 ≤ k = λ l. omega (arith, long_six few h l) in
      let lengths : wrong_lengths_in b ≡ false = by_test (is_long few)
      (λ l. sym (settled (omega (arith, six l))) ∙ f.lengths)
      (λ l. rw (sym same_long ∙ l)) in
      let starts : wrong_start b ≡ false = rw (← start) f.starts in
      let passes : refused b ≡ false = ap₂ ◌||◌ starts lengths in
      left_some b passes ∙ sym (same_count f.starts (λ l. omega (arith, six l))) ∙ sym f.count

-- the bytes of a capture that begins with such a line leave the line's count
pub left_line : (b : List ℕ) (n : ℕ) → n ≤ length b → Framed (take n b) → (0 < n) × (left_by b ≡ n)
left_line b n h f =
    let same : left_by (take n b) ≡ n = left_framed (take n b) f ∙ length-take-le n b h in
    let some : 0 < left_by (take n b) = framed_some (take n b) f in
    (omega arith, left_past b n (omega arith) h some (omega arith) ∙ same)
