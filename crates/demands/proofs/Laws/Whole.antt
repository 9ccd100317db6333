-- Proofs of the statements of specs/Whole.
use Prim.Native.Nat.{ℕ, ◌≤◌}
use mathlib.Core.List.{List, ◌++◌}
use mathlib.Core.Path.{refl, ap, ◌∙◌}
use lib.Count.{ones_in}
use lib.ListN.{length, length-append}
use lib.Seq.{take-append_seam}
use native.Mathlib.Omega.{arith}
use Rattle.base_rules.specs.Lists.{any}
use Rattle.base_characters.specs.Characters.{odd}
use Rattle.mbus_length.specs.Lengths.{line_length}
use Rattle.mbus_length.proofs.Laws.Meaning
use Rattle.demands.specs.Whole.{LengthIsRight, NoneBeginsSo, ToldAfterTwo, ToldAfterOne, LineIsKnown, LengthStays, LengthPastTheEnd, NoneStays}
use Rattle.demands.specs.Whole.{LengthValues}

pub length_is_right : LengthIsRight
length_is_right first line n e agree a = Meaning.only_length first line agree a n e

pub none_begins_so : NoneBeginsSo
none_begins_so first line e agree a = Meaning.not_refused first line agree a e

pub told_after_two : ToldAfterTwo
told_after_two = Meaning.knows_after_two

pub told_after_one : ToldAfterOne
told_after_one = Meaning.knows_after_one

pub line_is_known : LineIsKnown
line_is_known first line a agree h = Meaning.known_unless first line agree a (Meaning.knows_after_two first h)

module _ (first more : List ℕ) where
  begins : length first ≤ length (first ++ more)
  begins = omega (arith, length-append first more)

  pub length_stays : LengthStays first more
  length_stays m n e = Meaning.known_stays (first ++ more) (length first) begins m n (ap line_length (take-append_seam first more) ∙ e)

  pub length_past_the_end : LengthPastTheEnd first more
  length_past_the_end n e = Meaning.known_past (first ++ more) (length first) begins n (ap line_length (take-append_seam first more) ∙ e)

  pub none_stays : NoneStays first more
  none_stays e = Meaning.none_stays (first ++ more) (length first) begins (ap line_length (take-append_seam first more) ∙ e)

pub length_values : LengthValues
unfolding line_length any odd ones_in
length_values = (refl, refl, refl, refl, refl, refl, refl, refl, refl, refl)
