-- Laws of `specs/Words`: the number of a refusal, and a row more.
use Prim.Native.Nat.{ℕ, ◌+◌, ◌-◌, ◌≤◌, ◌<◌}
use mathlib.Core.Bool.{false}
use mathlib.Core.List.{List, [], append-nil}
use mathlib.Core.Path.{◌≡◌, ◌∙◌}
use native.Mathlib.Omega.{arith}
use borrow.Author.Tests.{le-ltb, eqb-true, eqb-false}
use lib.Dec.{eqb, ltb}
use lib.ListN.{set, length-set}
use lib.Seq.{get_or-set_same, get_or-set_other}
use Rattle.base_rules.proofs.Laws.Tests.{by_test}
use Rattle.base_characters.specs.Characters.{chars}
use Rattle.bundle_rows.specs.Rows.{most_rows}
use Rattle.run_counting.specs.Ears.{row_in}
use Rattle.run_listing.specs.Listings.{refused_text, word_of}
use Rattle.text_filling.specs.Texts.{text}
use Rattle.text_filling.specs.Decimals.{decimal}
use Rattle.text_stretches.specs.Between.{between}
use Rattle.run_picture.specs.Words.{numbered_word, Worded}

pub refused_word : (n : ℕ) → numbered_word (n + 6) ≡ refused_text n
unfolding numbered_word
refused_word n =
    let far : ltb (n + 6) 6 ≡ false = le-ltb (n + 6) 6 (omega arith) in
    let back : n + 6 - 6 ≡ n = omega arith in
    rw (far, back)

pub word_refused : (w : ℕ) → 6 ≤ w → between (text "refused ") (w - 6) [] ≡ numbered_word w
unfolding numbered_word
word_refused w h = let far : ltb w 6 ≡ false = le-ltb w 6 h in rw (far, append-nil (decimal (w - 6)))

module _ {b : List ℕ} {i : ℕ} {words : List ℕ} (w : ℕ) (g : Worded b i words) (few : i < most_rows)
    (e : numbered_word w ≡ word_of (chars (row_in b i).body)) where
  pub worded_next : Worded b (i + 1) (set words i w)
  worded_next = record {
    places = length-set words i w ∙ g.places;
    so =
        λ j h.
        by_test (eqb j i)
        (λ t. let same : j ≡ i = eqb-true j i t in rw (same, get_or-set_same words i w 0 (omega (arith, g.places))) e)
        (λ t. rw (get_or-set_other words i j w 0 (eqb-false j i t)) (g.so j (omega (arith, h, eqb-false j i t))));
  }
