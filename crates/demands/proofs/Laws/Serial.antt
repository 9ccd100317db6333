-- Proofs of the statements of specs/Serial.
use Prim.Native.Nat.{ℕ}
use mathlib.Core.Bool.{false}
use mathlib.Core.List.{List, ◌∷◌}
use mathlib.Core.Path.{◌≡◌, refl, sym}
use lib.Count.{ones_in}
use lib.Dec.{eqb}
use Rattle.base_characters.specs.Characters.{carrier}
use Rattle.base_characters.specs.Flips.{flip_bit}
use Rattle.mbus_rules.proofs.Laws.LineCode.{line_code}
use Rattle.serial_marks.specs.Marks.{wronged}
use Rattle.std.specs.Prelude.{Some}
use Rattle.serial_marks.specs.Unmarking.{whole, first, unmarked_in}
use Rattle.serial_marks.proofs.Laws.UnmarkingLaws as unmarking
use Rattle.serial_marks.proofs.Laws.PieceLaws as by-piece
use Rattle.serial_marks.proofs.Laws.SoundLaws as sound
use Rattle.demands.specs.Serial.{CharactersBack, PiecesBack, NothingIsLost, NeverTooMuch, WhatIsLeft, TwoCallsAsOne, MadeAreCharacters}
use Rattle.demands.specs.Serial.{AcceptedWasRight, StrayFf, SerialValues}

pub characters_back : CharactersBack
characters_back = unmarking.marked_back

pub pieces_back : PiecesBack
pieces_back = by-piece.all_heard

pub nothing_is_lost : NothingIsLost
nothing_is_lost = by-piece.nothing_lost

pub never_too_much : NeverTooMuch
never_too_much room bytes = let w = unmarking.within_both room bytes in (w.bytes, w.places)

pub what_is_left : WhatIsLeft
what_is_left = unmarking.what_is_left

pub two_calls_as_one : TwoCallsAsOne
two_calls_as_one = unmarking.in_two

pub made_are_characters : MadeAreCharacters
made_are_characters = sound.made_in_range

pub accepted_was_right : AcceptedWasRight
accepted_was_right room bytes h a =
    let even = (line_code.sound (unmarked_in room bytes).characters a).even in
    (even, sym (sound.passed_as_marked room bytes h even))

-- FF before another byte than 00 and FF, which no port passes on that is set as asked, is FF with wrong parity, and the other byte stands by itself.
stray_first : (b : ℕ) (s : List ℕ) → eqb b 0xFF ≡ false → eqb b 0x00 ≡ false → first (0xFF ∷ b ∷ s) ≡ Some (whole 1 0x1FF)
unfolding wronged flip_bit carrier ones_in
stray_first b s p q = rw (p, q)

pub stray_ff : StrayFf
stray_ff k b s p q = unmarking.step k (0xFF ∷ b ∷ s) (stray_first b s p q)

pub serial_values : SerialValues
unfolding unmarked_in wronged flip_bit carrier ones_in
serial_values = (refl, refl, refl, refl, refl, refl, refl)
