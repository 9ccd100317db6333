-- Flipped bits on a line, parity bits included: what demand 3 speaks of.
use Rattle.std.specs.Prelude.{◌≡◌, ℕ, ◌^◌, Bool, false, ◌&&◌, ◌||◌, List, [], ◌∷◌, length, ◌==◌, bit_xor, nat_le, slice_set}
use Rattle.base_rules.specs.Lists.{at, any}

-- A place: a character of the line, counted from 0, and one of its nine bits, 0 to 8.
pub record Place : Type 0 where
  pub character : ℕ
  pub bit : ℕ

-- the character with one bit turned over
unfoldable pub flip_bit : ℕ → ℕ → ℕ
flip_bit k c = bit_xor c (2 ^ k)

-- the line with the bit at one place turned over
abbrev pub flip : Place → List ℕ → List ℕ
flip p s = slice_set s p.character (flip_bit p.bit (at s p.character))

-- the line with the bit at each of the places turned over
unfoldable pub flips : List Place → List ℕ → List ℕ
flips [] s = s
flips (p ∷ ps) s = flip p (flips ps s)

-- the line has no such place
abbrev pub outside : List ℕ → Place → Bool
outside s p = nat_le (length s) p.character || nat_le 9 p.bit

abbrev pub same_place : Place → Place → Bool
same_place p q = p.character == q.character && p.bit == q.bit

-- a place stands in the list twice
unfoldable pub repeated : List Place → Bool
repeated [] = false
repeated (p ∷ ps) = any (same_place p) ps || repeated ps

-- Different places, each within the line.
pub record Places (s : List ℕ) (ps : List Place) : Type 0 where
  pub within : any (outside s) ps ≡ false
  pub different : repeated ps ≡ false
