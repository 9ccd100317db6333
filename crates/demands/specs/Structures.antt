-- 01, "Entry", with 02's 2026-06: the table of structures, and which structures go with a unit byte.
use Rattle.std.specs.Prelude.{ℕ, zero, suc, Bool, true, false, cond, List, [], ◌∷◌, ◌≡◌, eqb, ltb}
use Rattle.mbus_rules.specs.Quantities.{quantity_of, unknown, is_packed, is_binary}
use Rattle.mbus_rules.specs.Quantities.{width_of}
use Rattle.mbus_rules.specs.Quantities.{paired}

-- the bytes of a value, whether they are packed digits, whether binary
abbrev pub Sort : Type 0
Sort = ℕ × Bool × Bool

-- so many bytes of packed digits, of binary, and a structure byte that is none
abbrev pub digit_sort : ℕ → Sort
digit_sort bytes = (bytes, true, false)

abbrev pub binary_sort : ℕ → Sort
binary_sort bytes = (bytes, false, true)

abbrev pub no_sort : Sort
no_sort = (0, false, false)

-- what so many structure bytes say, from one on
unfoldable pub sorts : ℕ → ℕ → List Sort
sorts st zero = []
sorts st (suc count) = (width_of st, is_packed st, is_binary st) ∷ sorts (suc st) count

-- so many structure bytes that are none
unfoldable pub no_structures : ℕ → List Sort
no_structures zero = []
no_structures (suc count) = no_sort ∷ no_structures count

-- All 256 structure bytes, from 00 on.
abbrev pub WholeStructures : Type 0
WholeStructures =
    sorts 0x00 256
    ≡ no_sort
    ∷ binary_sort 1 ∷ binary_sort 2 ∷ binary_sort 3 ∷ binary_sort 4
    ∷ no_sort
    ∷ binary_sort 6 ∷ binary_sort 8
    ∷ no_sort ∷ no_sort
    ∷ digit_sort 2 ∷ digit_sort 3 ∷ digit_sort 4
    ∷ no_sort
    ∷ digit_sort 6
    ∷ no_structures 241

-- those of so many bytes that pass a test, from one on
unfoldable pub passing : (ℕ → Bool) → ℕ → ℕ → List ℕ
passing test b zero = []
passing test b (suc count) =
    let rest = passing test (suc b) count in
    cond (test b) (b ∷ rest) rest

-- Unit byte 6D goes with structure 06 alone, each other unit byte of the table with all ten structures, and no other with any.
abbrev pub StructuresOfAUnit : Type 0
StructuresOfAUnit = (u : ℕ)
    → passing (λ (st : ℕ). paired st u) 0x00 256
    ≡ cond (eqb u 0x6D) (0x06 ∷ [])
    (cond (ltb (quantity_of u) unknown) (0x01 ∷ 0x02 ∷ 0x03 ∷ 0x04 ∷ 0x06 ∷ 0x07 ∷ 0x0A ∷ 0x0B ∷ 0x0C ∷ 0x0E ∷ []) [])
