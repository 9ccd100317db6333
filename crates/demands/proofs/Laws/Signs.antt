-- Proofs of the statements of specs/Signs.
use Prim.Native.Nat.{ℕ, ◌/◌, ◌%◌, ◌≤◌}
use mathlib.Core.Bool.{true, false, not, ◌&&◌, ◌||◌, or-true, and-false, true≢false}
use mathlib.Core.List.{List, [], ◌∷◌}
use mathlib.Core.Path.{◌≡◌, refl, sym, ap₂, ◌∙◌}
use native.Mathlib.Omega.{arith}
use borrow.Author.Tests.{not-false, ltb-false, le-ltb}
use lib.Count.{ones_in}
use lib.Dec.{ltb}
use lib.IntN.{negsuc}
use Rattle.base_characters.specs.Characters.{odd, carrier}
use Rattle.base_digits.specs.Digits.{over_nine, digits_of, packed}
use Rattle.mbus_rules.specs.Entries.{may_fall, read_entries}
use Rattle.mbus_rules.specs.Headers.{wrong_header}
use Rattle.mbus_rules.specs.Lines.{read_body, read_line}
use Rattle.base_rules.specs.Lists.{any, total}
use Rattle.mbus_rules.specs.Moments.{wrong_moment}
use Rattle.mbus_rules.specs.Quantities.{quantity_of, width_of, paired, is_time, is_binary}
use Rattle.mbus_rules.specs.Signs.{minus, size_bytes, marked, wrong_signed, signed_bytes, fits_signed}
use Rattle.mbus_rules.specs.Writing.{bytes_of_entries, line_of}
use Rattle.mbus_rules.proofs.Laws.SignLaws.{signed_read, signed_written}
use Rattle.mbus_rules.proofs.Laws.RowLaws.{may_fall_three}
use Rattle.base_rules.proofs.Laws.Tests.{by_test, neither}
use Rattle.demands.specs.Signs.{MinusOneFifty, ChilledIsRead, OneForm, EveryNumber, Bounds, MinusZero, SignAllowed, SignRead, LowerPlace, HighestPlace}
use Rattle.demands.specs.Signs.{NumberWithoutSign, NotWritten}

pub minus_one_fifty : MinusOneFifty
unfolding packed marked
minus_one_fifty = (refl, refl, refl, refl)

pub chilled_is_read : ChilledIsRead
unfolding read_line read_body read_entries any total odd carrier ones_in line_of wrong_header digits_of minus size_bytes wrong_moment quantity_of width_of paired packed
    marked bytes_of_entries may_fall
chilled_is_read = (refl, refl, refl, refl)

pub one_form : OneForm
one_form a b ha hb wa wb l e = sym (signed_read a ha wa).back ∙ ap₂ signed_bytes l e ∙ (signed_read b hb wb).back

pub every_number : EveryNumber
every_number w z f =
    let s = signed_written w z f in
    (s.back, s.right, s.width, s.sign)

pub bounds : Bounds
bounds = (refl, refl, refl, refl, refl, refl, refl, refl, refl, refl)

pub minus_zero : MinusZero
minus_zero st unit b p t m z = rw (t, p, m, z, or-true (any over_nine (size_bytes b)))

pub sign_allowed : SignAllowed
sign_allowed st unit b p t w m =
    let both = neither (wrong_signed b) (minus b && not (may_fall unit)) (rw (t, p) at w) in
    sym (may_fall_three unit) ∙ not-false (may_fall unit) (rw m at both.1)

pub sign_read : SignRead
sign_read st unit b p f w = rw (p, w, f, and-false (minus b), and-false (not (is_time unit)))

-- F, or A to E, in a lower place is refused whatever the quantity; A to E in the highest place are, as F is where it is no minus
sizes_kept : (b : List ℕ) → any over_nine b ≡ false → any over_nine (size_bytes b) ≡ false
unfolding any size_bytes
sizes_kept [] e = refl
sizes_kept (b ∷ []) e =
    let h = neither (over_nine b) false e in
    let k = neither (ltb 9 (b % 16)) (ltb 9 (b / 16)) h.0 in
    let low : b % 16 % 16 ≤ 9 = omega (arith, ltb-false 9 (b % 16) k.0) in
    rw (le-ltb 9 (b % 16 % 16) low, le-ltb 9 (b % 16 / 16) (omega arith))
sizes_kept (b ∷ c ∷ s) e =
    let h = neither (over_nine b) (any over_nine (c ∷ s)) e in
    ap₂ ◌||◌ h.0 (sizes_kept (c ∷ s) h.1)

pub lower_place : LowerPlace
lower_place st unit b p t o =
    by_test (minus b) (λ m. rw (t, p, m, o))
    (λ m. by_test (any over_nine b) (λ d. rw (t, p, m, d)) (λ d. absurd (true≢false (sym o ∙ sizes_kept b d))))

pub highest_place : HighestPlace
highest_place st unit b p t m o = rw (t, p, m, o)

pub number_without_sign : NumberWithoutSign
unfolding wrong_header
number_without_sign part o = rw o

pub not_written : NotWritten
not_written st unit n f = rw (f, or-true (is_time unit || is_binary st || not (fits_signed (width_of st) (negsuc n))))
