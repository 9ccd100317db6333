-- Digits of an answer, gathered in a word.
use Rattle.std.proofs.Common.{◌≡◌, ℕ, ◌+◌, ◌*◌, ◌^◌, ◌<◌, ◌≤◌, min, eqb, List, length, take, drop, replicate, sym, ap, ◌∙◌, true≢false, le_trans, mul-le-mul_left, arith, lit<, length-drop, length-take, length-take-le, get_or-drop, get_or-take, eq-eqb, ne_eqb}
use native.Mathlib.Nat.{pow-le-pow_right}
use Rattle.base_rules.specs.Lists.{at, any}
use Rattle.base_digits.specs.Digits.{digits_of, packed_of}
use Rattle.base_rules.proofs.Laws.ByteLaws.{bytes_each, byte_at, bytes_take}
use Rattle.base_rules.proofs.Laws.Tests.{by_test}
use Rattle.base_numbers.specs.Numbers.{number, bytes_of}
use Rattle.base_numbers.proofs.Laws.NumberLaws.{bytes_read}
use Rattle.base_digits.specs.declared.Packed.{Packed}
use Rattle.base_digits.proofs.Laws.GatherLaws.{word_packed, digits_most}
use Rattle.cjt_rules.specs.CjtAddresses.{party_bytes, all_aa}
use Rattle.cjt_rules.specs.CjtLines.{part}
use Rattle.cjt_rules.proofs.Laws.BodyLaws.{all_aa_lem}

module _ (s : List ℕ) (byte : (i : ℕ) → at s i < 256) where
  further : (place i : ℕ) → at (drop place s) i < 256
  further place i = rw (get_or-drop place s i 0) (byte (place + i))

  -- a word holds what its bytes hold
  word_part : (place width : ℕ) → width ≤ 8 → packed_of (bytes_of 8 (number (part place width s))) ≡ packed_of (part place width s)
  word_part place width h = word_packed width (drop place s) (further place) h

  -- as the code gathers it
  pub read_part : (place width : ℕ) → width ≤ 8 → {n : ℕ} {p : Packed} → p ≡ packed_of (bytes_of 8 n) → n ≡ number (take (min width 8) (drop place s))
      → p ≡ packed_of (part place width s)
  read_part place width h e f =
      let whole : min width 8 ≡ width = omega arith in
      e ∙ ap (λ (m : ℕ). packed_of (bytes_of 8 m)) (f ∙ ap (λ (k : ℕ). number (take k (drop place s))) whole) ∙ word_part place width h

  -- eight digits fit
  pub count_fits : (place width : ℕ) → width ≤ 4 → digits_of (part place width s) < 2 ^ 32
  count_fits place width h =
      let most : 3 * digits_of (part place width s) + 5 ≤ 5 * 100 ^ 4 =
      le_trans (digits_most (part place width s) (bytes_take width (drop place s) (bytes_each (drop place s) (further place))))
      (mul-le-mul_left 5 (pow-le-pow_right (lit< tt) {j = 4} (omega (arith, length-take width (drop place s))))) in
      omega (arith, most)

  -- seven AA are one word
  pub all_word : 9 ≤ length s → eqb (number (part 2 7 s)) 0xAAAAAAAAAAAAAA ≡ all_aa (party_bytes s)
  unfolding number bytes_of any
  all_word h =
      let a : List ℕ = party_bytes s in
      let seven : length a ≡ 7 = length-take-le 7 (drop 2 s) (rw (length-drop 2 s) (omega arith)) in
      by_test (all_aa a)
      (λ all.
      let same : a ≡ replicate 7 0xAA = all_aa_lem a all ∙ ap (λ (k : ℕ). replicate k 0xAA) seven in
      eq-eqb (number a) 0xAAAAAAAAAAAAAA (ap number same) ∙ sym all)
      (λ some.
      let back : bytes_of 7 (number a) ≡ a =
      ap (λ (k : ℕ). bytes_of k (number a)) (sym seven) ∙ bytes_read a (λ i. seven-byte i) in
      ne_eqb (number a) 0xAAAAAAAAAAAAAA (λ e. true≢false (sym (ap all_aa (sym back ∙ ap (bytes_of 7) e)) ∙ some)) ∙ sym some)
    where
      seven-byte : (i : ℕ) → at (party_bytes s) i < 256
      seven-byte i = byte_at (party_bytes s) (bytes_take 7 (drop 2 s) (bytes_each (drop 2 s) (further 2))) i

-- the bytes of the clock
pub clock_at : (s : List ℕ) (i : ℕ) → i < 7 → at (part 34 7 s) i ≡ at s (34 + i)
clock_at s i h = get_or-take 7 (drop 34 s) i 0 h ∙ get_or-drop 34 s i 0
