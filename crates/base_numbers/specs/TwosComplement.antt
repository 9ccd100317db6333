-- 02, 2026-06: binary, two's complement, low byte first.
use Rattle.std.specs.Prelude.{ℕ, suc, ◌*◌, ◌-◌, ◌^◌, Bool, cond, List, ltb, leb, ℤ, pos, negsuc, neg_ℤ, length, true, false, eqb}
use Rattle.base_numbers.specs.Numbers.{number, bytes_of}

-- the highest bit is set
abbrev pub negative : List ℕ → Bool
negative b = leb (256 ^ length b) (2 * number b)

-- the number whose two's complement the bytes are
abbrev pub binary_of : List ℕ → ℤ
binary_of b = cond (negative b) (neg_ℤ (pos (256 ^ length b - number b))) (pos (number b))

-- the two's complement of a number, in as many bytes as told
abbrev pub binary_bytes : ℕ → ℤ → List ℕ
binary_bytes width (pos n) = bytes_of width n
binary_bytes width (negsuc n) = bytes_of width (256 ^ width - suc n)

-- it fits: half of what so many bytes can say is below zero
abbrev pub fits_binary : ℕ → ℤ → Bool
fits_binary width (pos n) = ltb (2 * n) (256 ^ width)
fits_binary width (negsuc n) = leb (2 * suc n) (256 ^ width)

-- it is below zero
abbrev pub below_zero : ℤ → Bool
below_zero (pos n) = false
below_zero (negsuc n) = true

abbrev pub is_zero : ℤ → Bool
is_zero (pos n) = eqb n 0
is_zero (negsuc n) = false
