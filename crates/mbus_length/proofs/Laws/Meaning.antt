-- What the length of a line by its first characters means.
use Prim.Native.Nat.{ℕ, ◌≤◌, ◌<◌}
use mathlib.Core.Bool.{true, false, ◌||◌, true≢false, and-false, and-eq-true_iff}
use mathlib.Core.List.{List, map}
use mathlib.Core.Logic.{◌≢◌}
use mathlib.Core.Path.{◌≡◌, refl, sym, ap, ap₂, ◌∙◌}
use native.Mathlib.Nat.{le_refl}
use native.Mathlib.Omega.{arith}
use borrow.Author.Tests.{eqb-true, eqb-false, eq-eqb, ne_eqb, ltb-true, ltb-false, le-ltb}
use lib.Dec.{eqb, ltb}
use lib.ListN.{length, take, length-map}
use lib.Seq.{length-take-le, take_all, take-length, take-take}
use Rattle.base_rules.specs.Lists.{at, any}
use Rattle.base_characters.specs.Characters.{over, odd, byte_of}
use Rattle.mbus_rules.specs.Lines.{is_long, Accepted}
use Rattle.base_characters.proofs.Laws.Codes.{Sound}
use Rattle.mbus_rules.proofs.Laws.Frames.{Framed}
use Rattle.mbus_rules.proofs.Laws.LineCode.{line_code}
use Rattle.base_rules.proofs.Laws.ListLaws.{map_take}
use Rattle.base_rules.proofs.Laws.Tests.{by_test, neither}
use Rattle.mbus_shape.specs.First.{left_by}
use Rattle.mbus_shape.proofs.Laws.FirstLaws.{framed_some, long_six, left_framed, same_long, left_before, left_grows, left_same, left_past}
use Rattle.mbus_length.specs.declared.HowLong.{HowLong}
use Rattle.mbus_length.specs.declared.HowLong.TheVariants.{Known, NotYet, NoLine}
use Rattle.mbus_length.specs.Lengths.{unsound_in, lacks_count, length_by, line_length, Agree}
use Rattle.mbus_length.proofs.Laws.Beginnings

answer : (s : List ℕ) → 1 ≤ length s → line_length s ≡ length_by s (left_by (map byte_of s))
unfolding line_length
answer s h = rw (ne_eqb (length s) 0 (omega arith))

nothing_yet : (s : List ℕ) → length s ≡ 0 → line_length s ≡ NotYet
unfolding line_length
nothing_yet s h = rw (eq-eqb (length s) 0 h)

told_some : (s : List ℕ) → line_length s ≢ NotYet → 1 ≤ length s
told_some s n = by_test (eqb (length s) 0) (λ t. absurd (n (nothing_yet s (eqb-true _ _ t)))) (λ t. let ne = eqb-false (length s) 0 t in omega arith)

known_some : (s : List ℕ) (n : ℕ) → line_length s ≡ Known n → 1 ≤ length s
known_some s n e = told_some s (λ y. let z : ◌≡◌ {A = ℕ} 0 1 = cc in omega arith)

-- what a known length tells
pub record KnownBy (s : List ℕ) (n : ℕ) : Type 0 where
  pub left : left_by (map byte_of s) ≡ n
  pub some : 0 < n
  pub clean : unsound_in n s ≡ false
  pub there : lacks_count (map byte_of s) ≡ false

known_tells : (s : List ℕ) (n : ℕ) → line_length s ≡ Known n → KnownBy s n
known_tells s n e =
    let k = Beginnings.known_by _ _ _ n (sym (answer s (known_some s n e)) ∙ e) in
    let both = neither (eqb (left_by (map byte_of s)) 0) (unsound_in (left_by (map byte_of s)) s) k.0 in
    let ne = eqb-false (left_by (map byte_of s)) 0 both.0 in
    record { left = k.2; some = omega (arith, k.2); clean = ap (λ (m : ℕ). unsound_in m s) (sym k.2) ∙ both.1; there = k.1 }

known_when : (s : List ℕ) (n : ℕ) → 1 ≤ length s → KnownBy s n → line_length s ≡ Known n
known_when s n h k = let ne : eqb n 0 ≡ false = ne_eqb n 0 (λ z. omega (arith, k.some)) in answer s h ∙ rw (k.left, ne, k.clean, k.there)

-- ---- more characters

module _ (w : List ℕ) (k : ℕ) (inside : k ≤ length w) where
  abbrev few : List ℕ
  few = take k (map byte_of w)

  abbrev all : List ℕ
  all = map byte_of w

  few_some : 1 ≤ length (take k w) → 1 ≤ k
  few_some h = omega (arith, length-take-le k w inside)

  there_all : k ≤ length all
  there_all = omega (arith, length-map w byte_of)

  pub none_stays : line_length (take k w) ≡ NoLine → line_length w ≡ NoLine
  none_stays e =
      let there = told_some (take k w) (λ y. let z : ◌≡◌ {A = ℕ} 0 1 = cc in omega arith) in
      let some = few_some there in
      let bad : (eqb (left_by few) 0 || unsound_in (left_by few) (take k w)) ≡ true =
      Beginnings.none_by _ (lacks_count few) (left_by few) (rw (map_take byte_of k w) at (sym (answer (take k w) there) ∙ e)) in
      answer w (omega arith) ∙ by_test (eqb (left_by all) 0) (λ t. rw t)
      (λ t. let ne = eqb-false (left_by all) 0 t in
      let left : 0 < left_by all = omega arith in
      let unsound : unsound_in (left_by few) (take k w) ≡ true =
      rw (ne_eqb (left_by few) 0 (λ z. omega (arith, left_before all k some there_all left))) at bad in
      rw t (by_test (unsound_in (left_by all) w) (λ u. rw u)
      (λ u. let both = neither (any over (take (left_by all) w)) (any odd (take (left_by all) w)) u in
      absurd (true≢false (sym unsound ∙ Beginnings.sound_first w (left_by few) (left_by all) k (left_grows all k some there_all left) both.0 both.1)))))

  -- the second byte is there where it is asked for
  second_there : lacks_count few ≡ false → is_long few ≡ true → 2 ≤ k
  second_there e l = omega (arith, length-take-le k all there_all, ltb-false (length few) 2 (rw l at e))

  module _ (n : ℕ) (e : line_length (take k w) ≡ Known n) where
    tells : KnownBy (take k w) n
    tells = known_tells (take k w) n e

    some_few : 1 ≤ k
    some_few = few_some (known_some (take k w) n e)

    left_few : left_by few ≡ n
    left_few = ap left_by (sym (map_take byte_of k w)) ∙ tells.left

    there_few : is_long few ≡ true → 2 ≤ k
    there_few = second_there (ap lacks_count (sym (map_take byte_of k w)) ∙ tells.there)

  pub known_stays : (m n : ℕ) → line_length (take k w) ≡ Known m → line_length w ≡ Known n → m ≡ n
  known_stays m n e f =
      let b = known_tells w n f in
      sym (left_few m e) ∙ left_same all k (some_few m e) there_all (omega (arith, b.left, b.some)) (there_few m e) ∙ b.left

  pub known_past : (n : ℕ) → line_length (take k w) ≡ Known n → n ≤ k → line_length w ≡ Known n
  known_past n e h =
      let a = tells n e in
      let some = some_few n e in
      known_when w n (omega arith) (record {
        left = left_past all k some there_all (omega (arith, left_few n e, a.some)) (omega (arith, left_few n e)) ∙ left_few n e;
        some = a.some;
        clean = ap (λ (l : List ℕ). any over l || any odd l) (sym (take-take n k w h)) ∙ a.clean;
        there = by_test (is_long all)
            (λ l. rw (le-ltb (length all) 2 (omega (arith, there_all, there_few n e (same_long all k some there_all ∙ l))), and-false))
            (λ l. rw l);
      })

-- two characters tell
pub knows_after_two : (s : List ℕ) → 2 ≤ length s → line_length s ≢ NotYet
knows_after_two s h e =
    let b = map byte_of s in
    let lacks : lacks_count b ≡ true = Beginnings.not_yet_by (eqb (left_by b) 0 || unsound_in (left_by b) s) _ _ (sym (answer s (omega arith)) ∙ e) in
    let few = ltb-true (length b) 2 ((and-eq-true_iff (is_long b) (ltb (length b) 2)).0 lacks).1 in
    omega (arith, length-map s byte_of)

-- and one, if it is not 68
pub knows_after_one : (s : List ℕ) → 1 ≤ length s → at (map byte_of s) 0 ≢ 0x68 → line_length s ≢ NotYet
knows_after_one s h n e =
    let b = map byte_of s in
    let lacks : lacks_count b ≡ true = Beginnings.not_yet_by (eqb (left_by b) 0 || unsound_in (left_by b) s) _ _ (sym (answer s h) ∙ e) in
    n (eqb-true _ _ ((and-eq-true_iff (is_long b) (ltb (length b) 2)).0 lacks).0)

-- ---- accepted lines

-- an accepted line is known by all of its characters
sound_known : (l : List ℕ) → Sound Framed l → line_length l ≡ Known (length l)
sound_known l f =
    let b = map byte_of l in
    let left = left_framed b f.bytes in
    let some = framed_some b f.bytes in
    known_when l (length l) (omega (arith, length-map l byte_of)) (record {
      left = left ∙ length-map l byte_of;
      some = omega (arith, length-map l byte_of);
      clean = ap (λ (s : List ℕ). any over s || any odd s) (take-length l) ∙ ap₂ ◌||◌ f.in_range f.even;
      there = by_test (is_long b) (λ t. rw (le-ltb (length b) 2 (omega (arith, long_six b some t)), and-false)) (λ t. rw t);
    })

pub accepted_known : (l : List ℕ) → Accepted l → line_length l ≡ Known (length l)
accepted_known l a = sound_known l (line_code.sound l a)

-- first characters that agree with an accepted line: not refused, and where they tell a length it is the line's
module _ (f l : List ℕ) (agree : Agree f l) (a : Accepted l) where
  inside : ltb (length l) (length f) ≡ false → f ≡ take (length f) l
  inside t = sym (take_all (length l) f (ltb-false (length l) (length f) t)) ∙ agree

  beyond : ltb (length l) (length f) ≡ true → take (length l) f ≡ l
  beyond t = let h = ltb-true (length l) (length f) t in agree ∙ take_all (length f) l (omega arith)

  longer : ltb (length l) (length f) ≡ true → line_length f ≡ Known (length l)
  longer t =
      let h = ltb-true (length l) (length f) t in
      known_past f (length l) (omega arith) (length l) (ap line_length (beyond t) ∙ accepted_known l a) (le_refl (length l))

  pub not_refused : line_length f ≢ NoLine
  not_refused e = by_test (ltb (length l) (length f))
      (λ t. let k = longer t in let z : ◌≡◌ {A = ℕ} 0 1 = cc in omega arith)
      (λ t. let n = none_stays l (length f) (ltb-false (length l) (length f) t) (ap line_length (sym (inside t)) ∙ e) in
      let k = accepted_known l a in
      let z : ◌≡◌ {A = ℕ} 0 1 = cc in
      omega arith)

  pub only_length : (n : ℕ) → line_length f ≡ Known n → length l ≡ n
  only_length n e = by_test (ltb (length l) (length f)) (λ t. let k = longer t in cc)
      (λ t. sym (known_stays l (length f) (ltb-false (length l) (length f) t) n (length l) (ap line_length (sym (inside t)) ∙ e) (accepted_known l a)))

  pub known_unless : line_length f ≢ NotYet → line_length f ≡ Known (length l)
  known_unless n = go (line_length f) refl
    where
      go : (x : HowLong) → line_length f ≡ x → line_length f ≡ Known (length l)
      go (Known m) e = e ∙ ap Known (sym (only_length m e))
      go NotYet e = absurd (n e)
      go NoLine e = absurd (not_refused e)
