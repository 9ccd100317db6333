-- Laws of a record of bytes, numbers and bytes: its size, its parts laid one behind the other, and its numbers read back.
use Prim.Native.Nat.{ℕ, ◌+◌, ◌*◌, ◌≤◌, zero-le}
use mathlib.Core.Bool.{true, false}
use mathlib.Core.List.{List, ◌++◌, append_assoc}
use mathlib.Core.Path.{◌≡◌, sym, ap, ap₂, ◌∙◌}
use native.Mathlib.Nat.{zero-add}
use native.Mathlib.Omega.{arith}
use borrow.Author.Tests.{ltb-false}
use lib.Dec.{ltb}
use lib.ListN.{length, length-append}
use Rattle.base_lent.specs.Copying.{laid, copied}
use Rattle.base_lent.proofs.Laws.Copying.{laid_on, laid_length, copied_fits, copied_full}
use Rattle.base_lent.proofs.Laws.PieceLaws.{pieces_length}
use Rattle.base_numbers.specs.Numbers.{bytes_of}
use Rattle.base_numbers.proofs.Laws.Numbers.{length_bytes}
use Rattle.base_numbers.specs.Records.{words_of, record_of}

pub words_length : (ns : List ℕ) → length (words_of ns) ≡ 8 * length ns
words_length ns = pieces_length (bytes_of 8) 8 (length_bytes 8) ns

pub record_length : (head words tail : List ℕ) → length (record_of head words tail) ≡ length head + (8 * length words + length tail)
record_length head words tail =
    length-append head (words_of words ++ tail) ∙ ap (λ (n : ℕ). length head + n)
    (length-append (words_of words) tail ∙ ap (λ (n : ℕ). n + length tail) (words_length words))

-- ---- the parts, one behind the other

module _ (d head words tail : List ℕ) where
  abbrev places : ℕ
  places = length head + (8 * length words + length tail)

  pub record_short : ltb (length d) places ≡ true → d ≡ copied d 0 (record_of head words tail)
  record_short e = rw (zero-add (length (record_of head words tail)), record_length head words tail, e)

  pub record_room : ltb (length d) places ≡ false → {a : List ℕ} → a ≡ copied d 0 head → length head + 8 * length words ≤ length a
  record_room e {a} ea =
      let room : length head + (8 * length words + length tail) ≤ length d = ltb-false (length d) places e in
      let front : 0 + length head ≤ length d = omega arith in
      let kept : length a ≡ length d = ap length (ea ∙ copied_fits d 0 head front) ∙ laid_length d head 0 front in
      omega arith

  pub record_laid : ltb (length d) places ≡ false → {a b c : List ℕ} → a ≡ copied d 0 head → b ≡ laid a (length head) (words_of words)
      → c ≡ copied b (length head + 8 * length words) tail → c ≡ copied d 0 (record_of head words tail)
  record_laid e {a} {b} {c} ea eb ec =
      let room : length head + (8 * length words + length tail) ≤ length d = ltb-false (length d) places e in
      let size = words_length words in
      let first : a ≡ laid d 0 head = ea ∙ copied_fits d 0 head (omega arith) in
      let start : length head ≡ 0 + length head = sym (zero-add (length head)) in
      let second : b ≡ laid d 0 (head ++ words_of words) =
      eb ∙ ap₂ (λ (l : List ℕ) (k : ℕ). laid l k (words_of words)) first start ∙ laid_on d 0 head (words_of words) zero-le in
      let both : length (head ++ words_of words) ≡ length head + 8 * length words = length-append head (words_of words) ∙ ap (λ (n : ℕ). length head + n) size in
      let kept : length b ≡ length d = ap length second ∙ laid_length d (head ++ words_of words) 0 (omega arith) in
      let behind : length head + 8 * length words ≡ 0 + length (head ++ words_of words) = omega arith in
      ec ∙ copied_fits b (length head + 8 * length words) tail (omega arith)
      ∙ ap₂ (λ (l : List ℕ) (k : ℕ). laid l k tail) second behind
      ∙ laid_on d 0 (head ++ words_of words) tail zero-le
      ∙ ap (laid d 0) (append_assoc head (words_of words) tail)
      ∙ sym (copied_fits d 0 (record_of head words tail) (omega (arith, record_length head words tail)))

-- ---- a record that fills all places, by parts that are known to be those of the definition

pub record_made : (d : List ℕ) {head words tail bytes : List ℕ} (h w t : List ℕ) → length d ≡ length head + (8 * length words + length tail)
    → head ≡ h → words ≡ w → tail ≡ t → bytes ≡ copied d 0 (record_of head words tail) → bytes ≡ record_of h w t
record_made d {head} {words} {tail} h w t n eh ew et e =
    e ∙ copied_full d (record_of head words tail) (record_length head words tail ∙ sym n)
    ∙ ap₂ (λ (x y : List ℕ). x ++ y) eh (ap₂ (λ (x y : List ℕ). words_of x ++ y) ew et)
