-- Laws of `specs/Saying`.
use Prim.Native.Nat.{ℕ, zero, suc, ◌+◌, ◌≤◌, ◌<◌, zero-le}
use mathlib.Core.Bool.{true, false}
use mathlib.Core.List.{List, [], ◌∷◌, ◌++◌}
use mathlib.Core.Path.{◌≡◌, refl, sym, ap, ◌∙◌}
use native.Mathlib.Numerals.{add-one}
use native.Mathlib.Omega.{arith}
use borrow.Author.Tests.{ltb-false}
use lib.Dec.{ltb}
use lib.ListN.{length, take, drop, set, get_or, length-set, length-append, get_or-append}
use lib.Seq.{take_all, get_or-append_seam}
use Rattle.base_rules.specs.Answers.{reads}
use Rattle.text_words.specs.Saying.{zero_ended, Says}

-- the zero byte takes one place more
size_ended : (words : List ℕ) → length (zero_ended words) ≡ length words + 1
size_ended words = length-append words (0 ∷ [])

-- Laws: too few places; all words written.
module _ (words out : List ℕ) where
  pub says_not : ltb (length out) (length words + 1) ≡ true → Says (reads words) out (256 + 21) out
  says_not short = record { answer = rw (size_ended words, short); holds = rw (size_ended words, short) }

  says_all : {after : List ℕ} → ltb (length out) (length words + 1) ≡ false → after ≡ zero_ended words ++ drop (length (zero_ended words)) out
      → Says (reads words) out (length words) after
  says_all room e =
      let fits : ltb (length out) (length (zero_ended words)) ≡ false = rw (size_ended words) room in
      record { answer = rw fits; holds = rw fits e }

-- A loop that copies: the first places hold as many of the words' bytes, the others what they held.
pub record Copied (words out : List ℕ) (i : ℕ) (after : List ℕ) : Type 0 where
  pub inside : i ≤ length words
  pub room : ltb (length out) (length words + 1) ≡ false
  pub same : length after ≡ length out
  pub so : after ≡ take i (zero_ended words) ++ drop i out

pub copied_none : (words out : List ℕ) → ltb (length out) (length words + 1) ≡ false → Copied words out 0 out
copied_none words out h = record { inside = zero-le; room = h; same = refl; so = refl }

copy : (words out : List ℕ) (i : ℕ) → i < length words → i < length out
    → set (take i words ++ drop i out) i (get_or words i 0) ≡ take (i + 1) words ++ drop (i + 1) out
copy words out i h g = rw add-one (copy_suc words out i h g)
  where
    copy_suc : (s d : List ℕ) (n : ℕ) → n < length s → n < length d → set (take n s ++ drop n d) n (get_or s n 0) ≡ take (suc n) s ++ drop (suc n) d
    copy_suc [] d n h g = absurd (omega arith)
    copy_suc (x ∷ s) [] n h g = absurd (omega arith)
    copy_suc (x ∷ s) (y ∷ d) zero h g = refl
    copy_suc (x ∷ s) (y ∷ d) (suc n) h g = ap (λ (t : List ℕ). x ∷ t) (copy_suc s d n (omega arith) (omega arith))

module _ {words out : List ℕ} {i : ℕ} {after : List ℕ} where
  -- one byte on: of the words, or the zero byte behind them
  copied_one : Copied words out i after → (b : ℕ) → get_or (zero_ended words) i 0 ≡ b → set after i b ≡ take (i + 1) (zero_ended words) ++ drop (i + 1) out
  copied_one g b e =
      let room = ltb-false (length out) (length words + 1) g.room in
      rw (g.so, ← e) (copy (zero_ended words) out i (omega (arith, g.inside, size_ended words)) (omega (arith, g.inside)))

  pub copied_next : Copied words out i after → i < length words → Copied words out (i + 1) (set after i (get_or words i 0))
  copied_next g h = record {
    inside = omega arith;
    room = g.room;
    same = length-set after i (get_or words i 0) ∙ g.same;
    so = copied_one g (get_or words i 0) (get_or-append words (0 ∷ []) 0 i h);
  }

  pub copied_all : Copied words out i after → length words ≤ i → Says (reads words) out (length words) (set after (length words) 0)
  copied_all g h =
      let all : i ≡ length words = omega (arith, g.inside) in
      let last : get_or (zero_ended words) i 0 ≡ 0 = rw all (get_or-append_seam words 0 [] 0) in
      let whole : i + 1 ≡ length (zero_ended words) = omega (arith, all, size_ended words) in
      says_all words out g.room (ap (λ (k : ℕ). set after k 0) (sym all) ∙ copied_one g 0 last ∙ rw (whole, take_all (length (zero_ended words)) (zero_ended words) (omega arith)))
