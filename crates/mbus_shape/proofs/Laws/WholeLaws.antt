-- The sum of all bytes tells 8 of the long form.
use Rattle.std.proofs.Common.{◌≡◌, ℕ, suc, ◌+◌, ◌-◌, ◌%◌, ◌<◌, ◌≤◌, Bool, true, false, cond, not, eqb, ltb, List, [], ◌∷◌, map, length, take, drop, sym, refl, ap, ◌∙◌, arith, ltb-false, eq-eqb, ne_eqb, eqb-true}
use borrow.Author.Tests.{eqb-false}
use Rattle.base_rules.specs.Lists.{at, total}
use Rattle.base_characters.specs.Characters.{byte_of}
use Rattle.base_rules.specs.Answers.{Answer, refuse}
use Rattle.mbus_rules.specs.Lines.{is_long, wrong_start, wrong_count, wrong_lengths, wrong_end, wrong_sum, read_frame}
use Rattle.base_characters.proofs.Laws.Closing.{last_two}
use Rattle.base_characters.proofs.Laws.CharacterLaws.{at_bytes}
use Rattle.base_rules.proofs.Laws.Tests.{by_test, neither, not_different}
use Rattle.mbus_shape.specs.Shapes.{whole_wrong, frame_by}

-- the first four bytes and the last two, apart
parts : (b : List ℕ) → 6 ≤ length b
    → total b ≡ at b 0 + at b 1 + at b 2 + at b 3 + total (take (length b - 6) (drop 4 b)) + at b (length b - 2) + at b (length b - 1)
unfolding total
parts [] h = absurd (omega arith)
parts (p ∷ []) h = absurd (omega arith)
parts (p ∷ (q ∷ [])) h = absurd (omega arith)
parts (p ∷ (q ∷ (r ∷ []))) h = absurd (omega arith)
parts (p ∷ (q ∷ (r ∷ (s ∷ t)))) h =
    let six : suc (suc (suc (suc (length t)))) - 6 ≡ length t - 2 = omega arith in
    let two : suc (suc (suc (suc (length t)))) - 2 ≡ suc (suc (suc (suc (length t - 2)))) = omega arith in
    let one : suc (suc (suc (suc (length t)))) - 1 ≡ suc (suc (suc (suc (length t - 1)))) = omega arith in
    rw (six, two, one) (omega (arith, last_two t (omega arith)))

-- 8, by numbers alone
told : (l cs f sum : ℕ) → cs < 256 → sum ≡ (0x68 + l + l + 0x68 + f + cs + 0x16) % 256
    → eqb sum ((0x68 + l + l + 0x68 + cs + cs + 0x16) % 256) ≡ eqb cs (f % 256)
told l cs f sum h e =
    by_test (eqb cs (f % 256)) (λ t. eq-eqb sum ((0x68 + l + l + 0x68 + cs + cs + 0x16) % 256) (omega (arith, eqb-true cs (f % 256) t)) ∙ sym t)
    (λ t. ne_eqb sum ((0x68 + l + l + 0x68 + cs + cs + 0x16) % 256) (λ u. eqb-false cs (f % 256) t (omega arith)) ∙ sym t)

whole_told : (b : List ℕ) {sum : ℕ} → is_long b ≡ true → wrong_count b ≡ false → wrong_lengths b ≡ false → wrong_end b ≡ false
    → at b (length b - 2) < 256 → sum ≡ total b % 256 → whole_wrong sum b ≡ wrong_sum b
whole_told b {sum} long count lengths end byte e =
    let first : at b 0 ≡ 0x68 = eqb-true (at b 0) 0x68 long in
    let six : 6 ≤ length b = ltb-false (length b) 6 (neither (ltb (length b) 6) (not (eqb (length b) (at b 1 + 6))) (rw first at count)).0 in
    let both = neither (not (eqb (at b 1) (at b 2))) (not (eqb (at b 3) 0x68)) (rw first at lengths) in
    let third : at b 1 ≡ at b 2 = not_different (at b 1) (at b 2) both.0 in
    let fourth : at b 3 ≡ 0x68 = not_different (at b 3) 0x68 both.1 in
    let last : at b (length b - 1) ≡ 0x16 = not_different (at b (length b - 1)) 0x16 (rw first at end) in
    let f : ℕ = total (take (length b - 6) (drop 4 b)) in
    let all : sum ≡ (0x68 + at b 1 + at b 1 + 0x68 + f + at b (length b - 2) + 0x16) % 256 = rw (parts b six, first, ← third, fourth, last) at e in
    rw first (ap not (told (at b 1) (at b (length b - 2)) f sum byte all))

chain : {A : Type 0} (start count lengths end p q : Bool) (x : Answer A) → (count ≡ false → lengths ≡ false → end ≡ false → p ≡ q)
    → refuse 4 start (refuse 5 count (refuse 6 lengths (refuse 7 end (refuse 8 p x))))
    ≡ refuse 4 start (refuse 5 count (refuse 6 lengths (refuse 7 end (refuse 8 q x))))
chain true count lengths end p q x h = refl
chain false true lengths end p q x h = refl
chain false false true end p q x h = refl
chain false false false true p q x h = refl
chain false false false false p q x h = ap (λ (test : Bool). refuse 8 test x) (h refl refl refl)

module _ {A : Type 0} (body : List ℕ → Answer A) where
  -- a line of another form is told by its own sum
  pub frame_other : (b : List ℕ) (sum : ℕ) → is_long b ≡ false → frame_by sum body b ≡ read_frame body b
  frame_other b sum e = rw e

  -- The frame by the sum of all bytes is the frame of 01.
  pub frame_whole : (s : List ℕ) {sum : ℕ} → sum ≡ total (map byte_of s) % 256 → frame_by sum body (map byte_of s) ≡ read_frame body (map byte_of s)
  frame_whole s {sum} e =
      let b : List ℕ = map byte_of s in
      by_test (is_long b)
      (λ long. chain (wrong_start b) (wrong_count b) (wrong_lengths b) (wrong_end b) (cond (is_long b) (whole_wrong sum b) (wrong_sum b)) (wrong_sum b) (body b)
      (λ count lengths end.
      ap (λ (t : Bool). cond t (whole_wrong sum b) (wrong_sum b)) long
      ∙ whole_told b long count lengths end (rw (at_bytes s (length b - 2)) (omega arith)) e))
      (frame_other b sum)

-- the same sum, as the code adds it up
pub twice_is : {l cs x y both twice whole : ℕ} → x ≡ l → y ≡ cs → both ≡ (x + y) % 256 → twice ≡ (both + both) % 256 → whole ≡ (twice + 0xE6) % 256
    → whole ≡ (0x68 + l + l + 0x68 + cs + cs + 0x16) % 256
twice_is {l} {cs} ex ey eb et ew = ew ∙ rw (et, eb, ex, ey) (doubled l cs)
  where
    once : (n : ℕ) → (n % 256 + n % 256) % 256 ≡ (n + n) % 256
    once n = omega arith

    doubled : (l cs : ℕ) → (((l + cs) % 256 + (l + cs) % 256) % 256 + 0xE6) % 256 ≡ (0x68 + l + l + 0x68 + cs + cs + 0x16) % 256
    doubled l cs = rw (once (l + cs)) (omega arith)
