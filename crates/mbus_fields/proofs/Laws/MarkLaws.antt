-- F in the highest place of bytes that were gathered in a word: the word reaches the mark of their number, and without it is their size.
use Prim.Native.Nat.{ℕ, ◌+◌, ◌-◌, ◌*◌, ◌/◌, ◌%◌, ◌^◌, ◌≤◌, ◌<◌, min}
use mathlib.Core.Bool.{Bool, true, false, cond}
use mathlib.Core.List.{List, [], ◌∷◌}
use mathlib.Core.Path.{◌≡◌, refl, sym, ap, ◌∙◌}
use native.Mathlib.Omega.{arith}
use borrow.Author.Tests.{eqb-true, eqb-false, leb-true, leb-false, le-leb, lt-leb}
use lib.Dec.{leb, eqb}
use lib.ListN.{length}
use Rattle.base_rules.specs.Bytes.{Bytes}
use Rattle.base_rules.specs.Lists.{any}
use Rattle.base_digits.specs.Digits.{over_nine, digits_of, packed_of}
use Rattle.mbus_rules.specs.Signs.{minus, size_bytes}
use Rattle.base_rules.proofs.Laws.Tests.{by_test}
use Rattle.mbus_rules.proofs.Laws.SignLaws.{size_length, plain}
use Rattle.base_numbers.proofs.Laws.ByteNumbers.{bytes_bytes}
use Rattle.base_numbers.specs.Numbers.{number, bytes_of}
use Rattle.base_numbers.proofs.Laws.Numbers.{length_bytes}
use Rattle.base_digits.specs.declared.Packed.{Packed}
use Rattle.mbus_fields.specs.declared.digits.Signed.{Signed}
use Rattle.mbus_fields.specs.Fields.{mark_of, sign_on, marked_in, signed_by, signed_in}
use Rattle.base_digits.proofs.Laws.GatherLaws.{word_whole, digits_most}

one_byte : (b : ℕ) → b < 256 → eqb (b / 16) 0xF ≡ leb 0xF0 (b + 256 * 0)
one_byte b h =
    by_test (eqb (b / 16) 0xF) (λ e. e ∙ sym (le-leb 0xF0 (b + 256 * 0) (omega (arith, eqb-true (b / 16) 0xF e))))
    (λ e. e ∙ sym (lt-leb 0xF0 (b + 256 * 0) (less e)))
  where
    less : eqb (b / 16) 0xF ≡ false → b + 256 * 0 < 0xF0
    less e =
        let n : b / 16 ≡ 0xF → ⊥ = eqb-false (b / 16) 0xF e in
        omega arith

more_bytes : (b m n : ℕ) → b < 256 → leb (256 * m) (b + 256 * n) ≡ leb m n
more_bytes b m n h =
    by_test (leb m n) (λ e. le-leb (256 * m) (b + 256 * n) (omega (arith, leb-true m n e)) ∙ sym e)
    (λ e. lt-leb (256 * m) (b + 256 * n) (omega (arith, leb-false m n e)) ∙ sym e)

minus_word : (b : List ℕ) → Bytes b → minus b ≡ leb (mark_of (length b)) (number b)
unfolding minus mark_of number
minus_word [] h = refl
minus_word (b ∷ []) h = one_byte b h.0
minus_word (b ∷ c ∷ s) h = minus_word (c ∷ s) h.1 ∙ sym (more_bytes b (mark_of (length (c ∷ s))) (number (c ∷ s)) h.0)

last_off : (b : ℕ) → b / 16 ≡ 0xF → b < 256 → (b + 256 * 0) - 0xF0 ≡ b % 16 + 256 * 0
last_off b e h = omega arith

more_off : (b n m s : ℕ) → m ≤ n → n - m ≡ s → (b + 256 * n) - 256 * m ≡ b + 256 * s
more_off b n m s h e = omega arith

mark_off : (b : List ℕ) → Bytes b → minus b ≡ true → number b - mark_of (length b) ≡ number (size_bytes b)
unfolding minus mark_of number size_bytes
mark_off [] h m = refl
mark_off (b ∷ []) h m = last_off b (eqb-true (b / 16) 0xF m) h.0
mark_off (b ∷ c ∷ s) h m =
    more_off b (number (c ∷ s)) (mark_of (length (c ∷ s))) (number (size_bytes (c ∷ s)))
    (leb-true (mark_of (length (c ∷ s))) (number (c ∷ s)) (sym (minus_word (c ∷ s) h.1) ∙ m)) (mark_off (c ∷ s) h.1 m)

bytes_size : (b : List ℕ) → Bytes b → Bytes (size_bytes b)
unfolding size_bytes
bytes_size [] h = tt
bytes_size (b ∷ []) h = (omega arith, tt)
bytes_size (b ∷ c ∷ s) h = (h.0, bytes_size (c ∷ s) h.1)

-- the digits of any word fit the signed type
pub word_small : (n : ℕ) → digits_of (bytes_of 8 n) < 2 ^ 63
word_small n =
    let l : length (bytes_of 8 n) ≡ 8 = length_bytes 8 n in
    let m : 3 * digits_of (bytes_of 8 n) + 5 ≤ 5 * 100 ^ 8 = rw l at (digits_most (bytes_of 8 n) (bytes_bytes 8 n)) in
    omega arith

-- the sign, and the digits of the word without its mark, are what the bytes hold
signed_word : (b : List ℕ) → Bytes b → length b ≤ 8 → marked_in (mark_of (length b)) (number b) ≡ signed_in b
signed_word b h l =
    by_test (minus b)
    (λ m. rw (sym (minus_word b h) ∙ m, m, mark_off b h m)
    (ap (sign_on true) (word_whole (size_bytes b) (bytes_size b h) (omega (arith, size_length b)))))
    (λ m. rw (sym (minus_word b h) ∙ m, m) (ap (sign_on false) (word_whole b h l)))

-- and where no digit of the word is over nine, its digits alone
plain_word : (b : List ℕ) → Bytes b → length b ≤ 8 → {p : Packed} → p ≡ packed_of (bytes_of 8 (number b)) → p.wrong ≡ false
    → sign_on false p ≡ signed_in b
plain_word b h l e w =
    let so = e ∙ word_whole b h l in
    let m : minus b ≡ false = plain b (sym (ap (λ (x : Packed). x.wrong) so) ∙ w) in
    rw m (ap (sign_on false) so)

-- so the word of bytes holds what they hold
pub signed_by_lem : (b : List ℕ) → Bytes b → length b ≤ 8 → signed_by (length b) (number b) ≡ signed_in b
signed_by_lem b h l =
    by_test (any over_nine (bytes_of 8 (number b))) (λ t. ap by t ∙ ap (λ (k : ℕ). marked_in (mark_of k) (number b)) least ∙ signed_word b h l)
    (λ t. ap by t ∙ plain_word b h l refl t)
  where
    by : Bool → Signed
    by t = cond t (marked_in (mark_of (min (length b) 8)) (number b)) (sign_on false (packed_of (bytes_of 8 (number b))))

    least : min (length b) 8 ≡ length b
    least = omega arith
