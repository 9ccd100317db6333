-- Laws of `specs/Marks`: the character of a byte that came with wrong parity, and the parity of a byte by a count of its bits.
use Prim.Native.Nat.{ℕ, ◌+◌, ◌*◌, ◌%◌, ◌≤◌, ◌<◌}
use mathlib.Core.Bool.{true, not}
use mathlib.Core.Path.{◌≡◌, refl, ap, ◌∙◌}
use native.Mathlib.Nat.{mod-lt}
use borrow.Author.Tests.{eqb-true, ltb-false}
use lib.Dec.{eqb, lit<}
use lib.Bits.{bit_xor}
use lib.Count.{ones, ones_in}
use Rattle.base_characters.specs.Characters.{byte_of, odd, carrier}
use Rattle.base_characters.specs.Flips.{flip_bit}
use Rattle.base_characters.proofs.Laws.CharacterLaws.{same_character, carrier_even, carrier_in_range, flip_odd, flip_in_range}
use Rattle.base_rules.proofs.Laws.Tests.{below}
use Rattle.serial_marks.specs.Marks.{wronged}

pub carrier_counted : (b : ℕ) → b < 256 → 256 * (ones b % 2) + b ≡ carrier b
unfolding ones ones_in carrier
carrier_counted b h = eqb-true _ _ (below 256 (λ (n : ℕ). eqb (256 * (ones n % 2) + n) (carrier n)) refl b h)

pub wronged_turned : (b : ℕ) → bit_xor (carrier b) 256 ≡ wronged b
unfolding wronged flip_bit
wronged_turned b = refl

wronged_byte : (b : ℕ) → b < 256 → byte_of (wronged b) ≡ b
unfolding wronged flip_bit carrier ones_in
wronged_byte b h = eqb-true _ _ (below 256 (λ (n : ℕ). eqb (byte_of (wronged n)) n) refl b h)

pub wronged_odd : (b : ℕ) → b < 256 → odd (wronged b) ≡ true
unfolding wronged
wronged_odd b h = flip_odd 8 (carrier b) (lit< tt) ∙ ap not (carrier_even b h)

pub wronged_in_range : (b : ℕ) → b < 256 → wronged b ≤ 511
unfolding wronged
wronged_in_range b h = flip_in_range 8 (carrier b) (lit< tt) (ltb-false 511 (carrier b) (carrier_in_range b h))

-- A character of odd parity is the one that its byte has with wrong parity.
pub wronged_back : (c : ℕ) → c ≤ 511 → odd c ≡ true → wronged (byte_of c) ≡ c
wronged_back c h e =
    let small : byte_of c < 256 = mod-lt c (lit< tt) in
    same_character (wronged (byte_of c)) c (wronged_in_range (byte_of c) small) h (wronged_byte (byte_of c) small) (wronged_odd (byte_of c) small ∙ rw e)
