-- 02, 2026-07: packed digits with a sign. F in the highest place means minus, the remaining digits are the size.
use Rattle.std.specs.Prelude.{ℕ, suc, ◌+◌, ◌*◌, ◌/◌, ◌%◌, ◌^◌, Bool, false, cond, ◌||◌, List, [], ◌∷◌, ltb, eqb, ℤ, pos, negsuc, neg_ℤ}
use Rattle.base_rules.specs.Lists.{any}
use Rattle.base_digits.specs.Digits.{over_nine, digits_of, packed}

-- F stands in the highest place, which is in the last byte
unfoldable pub minus : List ℕ → Bool
minus [] = false
minus (b ∷ []) = eqb (b / 16) 0xF
minus (b ∷ c ∷ s) = minus (c ∷ s)

-- the remaining digits, with 0 in the highest place
unfoldable pub size_bytes : List ℕ → List ℕ
size_bytes [] = []
size_bytes (b ∷ []) = b % 16 ∷ []
size_bytes (b ∷ c ∷ s) = b ∷ size_bytes (c ∷ s)

-- the digits of a size, with F in the highest place
unfoldable pub marked : List ℕ → List ℕ
marked [] = []
marked (b ∷ []) = (0xF0 + b) ∷ []
marked (b ∷ c ∷ s) = b ∷ marked (c ∷ s)

-- the number whose signed digits the bytes are
abbrev pub signed_of : List ℕ → ℤ
signed_of b = cond (minus b) (neg_ℤ (pos (digits_of (size_bytes b)))) (pos (digits_of b))

-- 12: a digit over 9, an F in the highest place left aside, or minus zero
abbrev pub wrong_signed : List ℕ → Bool
wrong_signed b = cond (minus b) (any over_nine (size_bytes b) || eqb (digits_of (size_bytes b)) 0) (any over_nine b)

-- the signed digits of a number, in as many bytes as told
abbrev pub signed_bytes : ℕ → ℤ → List ℕ
signed_bytes width (pos n) = packed width n
signed_bytes width (negsuc n) = marked (packed width (suc n))

-- it fits: 2w digits, and one less beside a sign
abbrev pub fits_signed : ℕ → ℤ → Bool
fits_signed width (pos n) = ltb n (100 ^ width)
fits_signed width (negsuc n) = ltb (10 * suc n) (100 ^ width)
