-- The fields of a data telegram as they are read: packed digits, with whether their rule is broken; binary; and a pair.
use Rattle.std.specs.Prelude.{ℕ, zero, suc, ◌+◌, ◌-◌, ◌*◌, min, Bool, true, false, Option, Some, None, cond, ◌&&◌, ◌||◌, List, ltb, leb, eqb, pos, neg_ℤ, length, take, drop}
use Rattle.base_rules.specs.Lists.{any}
use Rattle.base_digits.specs.Digits.{over_nine, packed_of}
use Rattle.mbus_rules.specs.Signs.{minus, signed_of, wrong_signed}
use Rattle.base_numbers.specs.TwosComplement.{negative, binary_of}
use Rattle.mbus_rules.specs.Quantities.{is_packed, is_binary, width_of, time, unknown}
use Rattle.base_numbers.specs.Numbers.{number, bytes_of}
use Rattle.base_digits.specs.declared.Packed.{Packed}
use Rattle.mbus_fields.specs.declared.digits.Signed.{Signed}
use Rattle.mbus_fields.specs.declared.digits.Wide.{Wide}
use Rattle.mbus_fields.specs.declared.binary.Coded.{Coded}

-- 02, 2026-07: the same with a sign.
abbrev pub signed_in : List ℕ → Signed
signed_in b = record { wrong = wrong_signed b; falls = minus b; count = signed_of b }

-- the least number of so many bytes that has F in the highest place
unfoldable pub mark_of : ℕ → ℕ
mark_of zero = 1
mark_of (suc zero) = 0xF0
mark_of (suc (suc k)) = 256 * mark_of (suc k)

-- digits with a sign before them
abbrev pub sign_on : Bool → Packed → Signed
sign_on true size = record { wrong = size.wrong || eqb size.count 0; falls = true; count = neg_ℤ (pos size.count) }
sign_on false size = record { wrong = size.wrong; falls = false; count = pos size.count }

-- what a word holds: a sign where it reaches the mark, and the digits of what is left without it
abbrev pub marked_in : ℕ → ℕ → Signed
marked_in mark word = sign_on (leb mark word) (packed_of (bytes_of 8 (cond (leb mark word) (word - mark) word)))

-- what a word of so many bytes holds: a sign is looked for only where a digit is over nine
abbrev pub signed_by : ℕ → ℕ → Signed
signed_by width word = cond (any over_nine (bytes_of 8 word)) (marked_in (mark_of (min width 8)) word) (sign_on false (packed_of (bytes_of 8 word)))

-- the value of so many bytes behind structure and unit, as a word; past the end there is none
abbrev pub wide_by : ℕ → List ℕ → Option Wide
wide_by width s = cond (ltb (length s) (2 + width)) None (Some (record { width = width; word = number (take width (drop 2 s)) }))

-- 01, "Entry": the value of packed BCD that the structure says
abbrev pub wide_of : ℕ → List ℕ → Option Wide
wide_of st s = cond (is_packed st) (wide_by (width_of st) s) None

-- 02, 2026-06: binary, and whether it is negative.
abbrev pub coded_of : List ℕ → Coded
coded_of b = record { falls = negative b; count = binary_of b }

-- 01, "Entry": time goes with structure 06 only, packed BCD and binary with each other quantity.
abbrev pub goes_with : ℕ → ℕ → Bool
goes_with st q = cond (eqb q time) (eqb st 0x06) ((is_packed st || is_binary st) && ltb q unknown)
