-- 01, "Header" and "Entry": packed BCD, low byte first.
use Rattle.std.specs.Prelude.{ℕ, zero, suc, ◌+◌, ◌*◌, ◌/◌, ◌%◌, Bool, ◌||◌, List, [], ◌∷◌, ltb}
use Rattle.base_rules.specs.Lists.{any}
use Rattle.base_digits.specs.declared.Packed.{Packed}

-- a digit of the byte is over 9
abbrev pub over_nine : ℕ → Bool
over_nine b = ltb 9 (b % 16) || ltb 9 (b / 16)

-- the number whose packed digits the bytes are
unfoldable pub digits_of : List ℕ → ℕ
digits_of [] = 0
digits_of (b ∷ s) = 100 * digits_of s + (10 * (b / 16) + b % 16)

-- the packed digits of a number, in as many bytes as told
unfoldable pub packed : ℕ → ℕ → List ℕ
packed zero n = []
packed (suc k) n = (16 * (n / 10 % 10) + n % 10) ∷ packed k (n / 100)

-- 01, "Header" and "Entry": packed BCD, low byte first.
abbrev pub packed_of : List ℕ → Packed
packed_of b = record { wrong = any over_nine b; count = digits_of b }
