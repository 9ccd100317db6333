-- 01, "Entry", with 02's 2026-06: the table of quantities, as the meaning of a unit byte is told.
use Rattle.std.specs.Prelude.{ℕ, zero, suc, ◌<◌, List, [], ◌∷◌, ◌++◌, ◌≡◌, pos}
use Rattle.std.proofs.Math.IntN.{sub_ℕ}
use Rattle.base_rules.specs.Answers.{Answer, reads, refusal}
use Rattle.base_numbers.specs.TwosComplement.{binary_of, binary_bytes}
use Rattle.mbus_rules.specs.Quantities.{power_of, energy, volume, power, flow, inlet, outlet, time}
use Rattle.mbus_rules.specs.Quantities.{no_unit, watt_hour, joule, cubic_metre, watt, cubic_metre_an_hour, degree_celsius}
use Rattle.host_meaning.specs.Meanings.{Meaning, meant, meaning_of}

-- what so many unit bytes mean, from one on
unfoldable pub meanings : ℕ → ℕ → List (Answer Meaning)
meanings u zero = []
meanings u (suc count) = meaning_of u ∷ meanings (suc u) count

-- a row of the table, from its unit byte with the low bits n on: the power of ten is n less a number
unfoldable pub table_row : ℕ → ℕ → ℕ → ℕ → ℕ → List (Answer Meaning)
table_row n quantity unit less zero = []
table_row n quantity unit less (suc count) = reads (meant quantity unit (sub_ℕ n less)) ∷ table_row (suc n) quantity unit less count

-- so many unit bytes that are in no row
unfoldable pub no_row : ℕ → List (Answer Meaning)
no_row zero = []
no_row (suc count) = refusal 11 ∷ no_row count

-- All 256 unit bytes, from 00 on.
abbrev pub WholeTable : Type 0
WholeTable =
    meanings 0x00 256
    ≡ table_row 0 energy watt_hour 3 8
    ++ (table_row 0 energy joule 0 8
    ++ (table_row 0 volume cubic_metre 6 8
    ++ (no_row 16
    ++ (table_row 0 power watt 3 8
    ++ (no_row 8
    ++ (table_row 0 flow cubic_metre_an_hour 6 8
    ++ (no_row 24
    ++ (table_row 0 inlet degree_celsius 3 4
    ++ (table_row 0 outlet degree_celsius 3 4
    ++ (no_row 13
    ++ (reads (meant time no_unit (pos 0))
    ∷ no_row 146)))))))))))

-- The power is read from its byte in the record as it was meant.
abbrev pub PowerReadBack : Type 0
PowerReadBack = (u : ℕ) → u < 256 → binary_of (binary_bytes 1 (power_of u)) ≡ power_of u
