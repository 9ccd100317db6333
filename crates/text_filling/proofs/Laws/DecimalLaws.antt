-- Laws of `specs/Decimals`.
use Prim.Native.Nat.{ℕ, zero, suc, ◌+◌, ◌-◌, ◌*◌, ◌/◌, ◌%◌, ◌^◌, ◌≤◌, ◌<◌, zero-le}
use mathlib.Core.Bool.{Bool, true, false, cond}
use mathlib.Core.List.{List, [], ◌∷◌, ◌++◌, append_assoc}
use mathlib.Core.Path.{◌≡◌, refl, sym, ap, ◌∙◌, subst}
use native.Mathlib.Nat.{pow-suc}
use native.Mathlib.Omega.{arith}
use borrow.Author.Tests.{ne_eqb, eqb-false}
use lib.Dec.{eqb}
use lib.ListN.{length, drop, set, length-set, length-append, drop_of_length-le}
use lib.Seq.{drop-cons, get_or-set_same, drop-set-lt}
use Rattle.text_filling.specs.Decimals.{last_digit, digits_in, digits, decimal}

-- Laws: more room changes nothing; the last digit of a number that is not 0, and the digits before it.
room : (k j n : ℕ) → n ≤ k → n ≤ j → digits_in k n ≡ digits_in j n
unfolding digits_in
room zero zero n h g = refl
room zero (suc j) n h g = let z : n ≡ 0 = omega arith in rw z
room (suc k) zero n h g = let z : n ≡ 0 = omega arith in rw z
room (suc k) (suc j) n h g =
    ap (λ (l : List ℕ). cond (eqb n 0) [] (l ++ last_digit n)) (room k j (n / 10) (omega arith) (omega arith))

pub digits_next : (n : ℕ) → 0 < n → digits n ≡ digits (n / 10) ++ last_digit n
unfolding digits_in
digits_next zero h = absurd (omega arith)
digits_next (suc m) h =
    rw (ne_eqb (suc m) 0 (λ e. omega arith)) (ap (λ (l : List ℕ). l ++ last_digit (suc m)) (room m (suc m / 10) (suc m / 10) (omega arith) (omega arith)))

-- a byte stored in front of a stretch
drop_set : (l : List ℕ) (i v : ℕ) → i < length l → drop i (set l i v) ≡ v ∷ drop (suc i) l
drop_set l i v h =
    drop-cons (set l i v) i 0 (rw length-set h)
    ∙ rw (get_or-set_same l i v 0 h, drop-set-lt (suc i) l i v (omega arith))

-- A loop that spells: the digits to come and those that stand in the last places are the number.
pub record Spelled (n start rest : ℕ) (bytes : List ℕ) : Type 0 where
  pub near : start ≤ 19
  pub small : rest < 10 ^ start
  pub same : length bytes ≡ 20
  pub so : digits rest ++ drop start bytes ≡ decimal n

pub spelled_first : (n : ℕ) (bytes : List ℕ) → n < 10 ^ 20 → length bytes ≡ 20 → Spelled n 19 (n / 10) (set bytes 19 (48 + n % 10))
spelled_first n bytes h e = record {
  near = omega arith;
  small = omega arith;
  same = length-set bytes 19 (48 + n % 10) ∙ e;
  so =
      ap (λ (l : List ℕ). digits (n / 10) ++ l)
      (drop_set bytes 19 (48 + n % 10) (omega arith) ∙ ap (λ (l : List ℕ). (48 + n % 10) ∷ l) (drop_of_length-le bytes {i = 20} (omega arith)));
}

step : {n s rest : ℕ} {bytes : List ℕ} → Spelled n (suc s) rest bytes → 0 < rest → Spelled n s (rest / 10) (set bytes s (48 + rest % 10))
step {n} {s} {rest} {bytes} g h = record {
  near = omega (arith, g.near);
  small = let p : rest < 10 ^ s * 10 = rw pow-suc at g.small in omega arith;
  same = length-set bytes s (48 + rest % 10) ∙ g.same;
  so =
      ap (λ (l : List ℕ). digits (rest / 10) ++ l) (drop_set bytes s (48 + rest % 10) (omega (arith, g.near, g.same)))
      ∙ sym (append_assoc (digits (rest / 10)) (last_digit rest) (drop (suc s) bytes))
      ∙ ap (λ (l : List ℕ). l ++ drop (suc s) bytes) (sym (digits_next rest h)) ∙ g.so;
}

pub spelled_more : {n start rest : ℕ} {bytes : List ℕ} → Spelled n start rest bytes → 0 < rest → 0 < start
spelled_more {start = zero} g h = absurd (omega (arith, g.small))
spelled_more {start = suc s} g h = omega arith

pub spelled_next : {n start rest : ℕ} {bytes : List ℕ}
    → Spelled n start rest bytes → 0 < rest → Spelled n (start - 1) (rest / 10) (set bytes (start - 1) (48 + rest % 10))
spelled_next {n} {start} {rest} {bytes} g h =
    let one : start ≡ suc (start - 1) = omega (arith, spelled_more g h) in
    step (subst (λ (k : ℕ). Spelled n k rest bytes) one g) h

pub spelled_all : {n start rest : ℕ} {bytes : List ℕ} → Spelled n start rest bytes → rest ≤ 0 → drop start bytes ≡ decimal n
unfolding digits_in
spelled_all {n} {start} {rest} {bytes} g h =
    let none : rest ≡ 0 = omega arith in
    rw none at g.so

-- ---- a number below 10 ^ k has at most k digits
more_digits : (t : Bool) (n k : ℕ) (l : List ℕ) → eqb n 0 ≡ t → n < 10 ^ k → ((j : ℕ) → n / 10 < 10 ^ j → length l ≤ j)
    → length (cond t [] (l ++ last_digit n)) ≤ k
more_digits true n k l e h g = zero-le
more_digits false n zero l e h g = absurd (eqb-false n 0 e (omega arith))
more_digits false n (suc k) l e h g =
    let p : n < 10 ^ k * 10 = rw pow-suc at h in
    let m : n / 10 < 10 ^ k = omega arith in
    omega (arith, length-append l (last_digit n), g k m)

digits_few : (f k n : ℕ) → n < 10 ^ k → length (digits_in f n) ≤ k
unfolding digits_in
digits_few zero k n h = zero-le
digits_few (suc f) k n h = more_digits (eqb n 0) n k (digits_in f (n / 10)) refl h (λ j. digits_few f j (n / 10))

pub decimal_few : (k n : ℕ) → n < 10 ^ suc k → length (decimal n) ≤ suc k
decimal_few k n h =
    let p : n < 10 ^ k * 10 = rw pow-suc at h in
    let m : n / 10 < 10 ^ k = omega arith in
    omega (arith, length-append (digits_in (n / 10) (n / 10)) (last_digit n), digits_few (n / 10) k (n / 10) m)
